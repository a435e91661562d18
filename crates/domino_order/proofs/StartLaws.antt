-- Where a run begins: the words of a step, and the roots of the setting where each step begins.
use Rattle.std.proofs.Common.{◌≡◌, ℕ, ◌+◌, ◌<◌, ◌≤◌, ◌++◌, All, List, Err, ap, arith, eqb, length, length-append, refl, slice_index, subst, sym, ◌∙◌}
use Rattle.std.proofs.lemmas.Bool.{eq-eqb}
use Rattle.std.proofs.lemmas.List.{get_or_append_left}
use Rattle.std.proofs.lemmas.Option.{slice_get_within}
use Rattle.node_pool.specs.declared.region.Span.{Span}
use Rattle.bdd_core.specs.Diagram.{Valuation, meaning}
use Rattle.bdd_core.specs.Store.{Adds, Diagrams}
use Rattle.bdd_core.specs.Words.{IsFilled, shows, word_at}
use Rattle.bdd_core.specs.declared.handle.H.{H}
use Rattle.bdd_core.specs.declared.handle.Spent.{Spent}
use Rattle.bdd_ops.specs.Counting.{Counts, IsCounted}
use Rattle.bdd_ops.specs.Ops.{bits_of}
use Rattle.domino_order.proofs.RunLaws.{opened_passes}
use Rattle.domino_order.proofs.StepFound.{same_vars}
use Rattle.domino_order.proofs.StepGives.{start_gives}
use Rattle.domino_order.specs.Runs.{IsAsked, IsPrepared, IsRoomFor, MayPass, asked_variables, of_asked, phase_variables, run_operations}
use Rattle.domino_order.specs.StepWords.{AreInputs, HasStepHandles, HasStepWords, KeepsWords, StaysFilled}
use Rattle.domino_order.specs.declared.prepared.Asked.{Asked}
use Rattle.domino_order.specs.declared.step.StepWords.{StepWords}
use Rattle.phase_check.proofs.Spans.{least_span}
use Rattle.phase_laws.proofs.Work.{may_spend, used_more, used_none}
use Rattle.phase_terms.specs.Opened.{AreRootsOpen, IsOpen, opened_operations}
use Rattle.phase_terms.specs.Stores.{HasPhaseWords, IsUsed, counts_of}
use Rattle.phase_terms.specs.declared.words.PhaseWords.{PhaseWords}
use Rattle.phase_terms.specs.declared.words.WordCounts.{WordCounts}
use Rattle.vrt_model.proofs.Members.{all_by, among_any}
use Rattle.vrt_model.specs.Comparison.{Comparison}
use Rattle.vrt_model.specs.Held.{sources_of}
use Rattle.vrt_model.specs.declared.circuit.Circuit.{Circuit}

-- ---- more words

module _ (old new : Diagrams) (more : List ℕ) (taken : new ≡ record old { words = old.words ++ more }) where
  longer : length old.words ≤ length new.words
  longer = (let all : length new.words ≡ length old.words + length more = ap (λ (d : Diagrams). length d.words) taken ∙ length-append old.words more in omega (arith, all))

  pub words_longer : (c : WordCounts) (w : PhaseWords) → HasPhaseWords c w old → HasPhaseWords c w new
  words_longer c w h = record {
    first = (let own : new.own ≡ old.own = ap (λ (d : Diagrams). d.own) taken in let first = h.first in omega (arith, own, first));
    gates_behind = h.gates_behind;
    zeros_behind = h.zeros_behind;
    ones_behind = h.ones_behind;
    out_behind = h.out_behind;
    inputs_behind = h.inputs_behind;
    held_behind = h.held_behind;
    values_behind = h.values_behind;
    least_behind = h.least_behind;
    last = (let last = h.last in omega (arith, last, longer));
    roots_len = h.roots_len;
    gates_len = h.gates_len;
    zeros_len = h.zeros_len;
    ones_len = h.ones_len;
    out_len = h.out_len;
    inputs_len = h.inputs_len;
    held_len = h.held_len;
    values_len = h.values_len;
    least_len = h.least_len;
  }

  -- ---- words that are longer by some at their end

  -- live handles stay
  pub filled_longer : (span : Span) → span.start + span.len ≤ length old.words → IsFilled old span → IsFilled new span
  filled_longer span within filled k lt =
      let same : word_at new span k ≡ word_at old span k =
      ap (λ (d : Diagrams). word_at d span k) taken ∙ get_or_append_left old.words more 0 (span.start + k) (omega (arith, within, lt)) in
      let live = filled k lt in
      let nodes : length new.nodes ≡ length old.nodes = ap (λ (d : Diagrams). length d.nodes) taken in omega (arith, same, live, nodes)

-- a store to whose words some were added twice
pub rest_longer : (old mid new : Diagrams) (more : List ℕ) → mid ≡ record old { words = mid.words } → new ≡ record mid { words = mid.words ++ more } → new ≡ record old { words = new.words }
rest_longer old mid new more rest taken =
    taken ∙ ap (λ (d : Diagrams). record d { words = mid.words ++ more }) rest
    ∙ ap (λ (ws : List ℕ). record old { words = ws }) (sym (ap (λ (d : Diagrams). d.words) taken))

module _ (c : WordCounts) (w : PhaseWords) (mid new : Diagrams) (more : List ℕ) (taken : new ≡ record mid { words = mid.words ++ more }) (h : HasPhaseWords c w mid) where
  pub roots_longer : IsFilled mid w.roots → IsFilled new w.roots
  roots_longer filled = filled_longer mid new more taken w.roots (omega (arith, h.gates_behind, h.zeros_behind, h.ones_behind, h.out_behind, h.inputs_behind, h.held_behind, h.values_behind, h.least_behind, h.last)) filled

  pub inputs_longer : IsFilled mid w.inputs → IsFilled new w.inputs
  inputs_longer filled = filled_longer mid new more taken w.inputs (omega (arith, h.held_behind, h.values_behind, h.least_behind, h.last)) filled

  pub held_longer : IsFilled mid w.held → IsFilled new w.held
  held_longer filled = filled_longer mid new more taken w.held (omega (arith, h.values_behind, h.least_behind, h.last)) filled

-- ---- the roots where each step begins

-- each net that rises has a word in a span with one for each net
pub inputs_within : (c : Circuit) (nets : List ℕ) (len : ℕ) → AreInputs c nets → len ≡ length c.nets → All (λ (n : ℕ). n < len) nets
inputs_within c nets len inputs same =
    all_by (λ (n : ℕ). n < len) nets
    (λ n m. (
    let net = inputs n (among_any (λ (x : ℕ). eqb x n) nets n m (eq-eqb n n refl)) in
    let lt = slice_get_within c.nets n net.0 net.1 in omega (arith, lt, same)
    ))

-- ---- an opened phase

-- roots with the same beginning
pub given_open : (k : Comparison) (phase : ℕ) (roots given : Span) (d : Diagrams) → given.start ≡ roots.start → given.len ≤ roots.len → AreRootsOpen k phase roots d → AreRootsOpen k phase given d
given_open k phase roots given d start len opened = record {
  live = λ n lt. subst (λ (x : ℕ). slice_index d.words (x + n) < length d.nodes) (sym start) (opened.live n (omega (arith, lt, len)));
  fixed = λ v n b f. same n v ∙ opened.fixed v n b f;
  setting = λ bits. record {
    inputs = λ n net e kind. (opened.setting bits).inputs n net e kind ∙ sym (same n _);
    held = λ at hold e plain. (opened.setting bits).held at hold e plain ∙ sym (same hold.net.0 _);
  };
}
  where
    same : (n : ℕ) (v : Valuation) → shows d given n v ≡ shows d roots n v
    same n v = ap (λ (x : ℕ). meaning d.nodes (slice_index d.words (x + n)) v) start

-- other words are nothing of the nodes
pub used_words : (budget v a : ℕ) (old new : Diagrams) → new ≡ record old { words = new.words } → IsUsed budget v a old → IsUsed budget v a new
used_words budget v a old new same used = subst (IsUsed budget v a) (sym same) (record { budget_is = used.budget_is; few = used.few; within = used.within })

module _ (s : Asked) (is : IsAsked s) (old d2 d3 d4 : Diagrams) (room : IsRoomFor s old) (rest : d2 ≡ record old { words = d2.words }) (w : PhaseWords) (steps : StepWords) (words : HasPhaseWords s.counts w d2)
    (start : steps.given.start ≡ w.roots.start) (there : HasStepWords (of_asked s).circuit steps d2) where
  budget : d2.budget ≡ old.budget
  budget = ap (λ (d : Diagrams). d.budget) rest

  vars : d2.vars ≡ old.vars
  vars = ap (λ (d : Diagrams). d.vars) rest

  count : length d2.nodes ≡ 2
  count = ap (λ (d : Diagrams). length d.nodes) rest ∙ room.count

  abbrev k : Comparison
  k = of_asked s

  abbrev phase : ℕ
  phase = s.rising.phase

  abbrev nets : ℕ
  nets = length k.circuit.nets

  -- what opening the phase asks of its words
  pub phase_there : HasPhaseWords (counts_of k d2.vars) w d2
  phase_there = subst (λ (c : WordCounts). HasPhaseWords c w d2) (is.counts ∙ ap (λ (v : ℕ). counts_of k v) (sym (vars ∙ room.vars))) words

  abbrev variables : ℕ
  variables = length (sources_of k phase)

  -- the roots of the phase are those that are given
  pub given_there : (care : H) → IsOpen k phase care w d3 → AreRootsOpen k phase steps.given d3
  given_there care opened =
      let size : s.counts.nets ≡ nets = ap (λ (c : WordCounts). c.nets) is.counts in
      let len = words.roots_len in
      let own = there.given_len in given_open k phase w.roots steps.given d3 start (omega (arith, size, len, own)) opened.roots

  used_two : IsUsed old.budget variables 0 d2
  used_two = used_none old.budget variables d2 budget count

  -- a refusal while the phase is opened
  pub open_passes : {A : Type 0} (e : Spent) → Counts {A = A} variables (opened_operations k phase) d2 d3 (Err e) → MayPass (asked_variables s) old.budget (run_operations s)
  open_passes {A} e counts =
      let opened : ℕ = opened_operations k phase in
      let spends = may_spend {A = A} k phase old.budget variables 0 opened opened d2 d3 e used_two refl room.budget (omega arith) counts in
      opened_passes k phase old.budget (asked_variables s) opened (run_operations s) (omega arith) (omega arith) spends.0

  module _ (adds : Adds d2 d3 d3.words) (len : length d3.words ≡ length d2.words) (counted : IsCounted variables (opened_operations k phase) d2 d3) (care : H) (opened : IsOpen k phase care w d3)
      (handles : HasStepHandles k.circuit steps d4) (filled : d4 ≡ record d3 { words = d4.words }) (keeps : KeepsWords d3 d4) (stays : StaysFilled steps.given d3 d4)
      (copied : (m : ℕ) (v : Valuation) → m < nets → shows d4 steps.setting m v ≡ shows d3 steps.given m v) where
    roots : AreRootsOpen k phase steps.given d3
    roots = given_there care opened

    below : (m : ℕ) → m < nets → m < steps.given.len
    below m lt = (let own = there.given_len in omega (arith, own, lt))

    vars_three : d3.vars ≡ phase_variables s
    vars_three = same_vars d2 d3 d3.words adds ∙ vars ∙ room.vars

    vars_four : d4.vars ≡ d3.vars
    vars_four = ap (λ (d : Diagrams). d.vars) filled

    budget_four : d4.budget ≡ old.budget
    budget_four = ap (λ (d : Diagrams). d.budget) filled ∙ ap (λ (d : Diagrams). d.budget) adds.rest ∙ budget

    own_four : d4.own ≡ d2.own
    own_four = ap (λ (d : Diagrams). d.own) filled ∙ ap (λ (d : Diagrams). d.own) adds.rest

    used_three : IsUsed old.budget variables (opened_operations k phase) d3
    used_three =
        let opened : ℕ = opened_operations k phase in
        let used = used_more old.budget variables 0 opened d2 d3 used_two counted in
        let same : 0 + opened ≡ opened = omega arith in subst (λ (x : ℕ). IsUsed old.budget variables x d3) same used

    used_four : IsUsed d4.budget d4.vars (opened_operations k phase) d4
    used_four =
        subst (λ (x : ℕ). IsUsed x d4.vars (opened_operations k phase) d4) (sym budget_four)
        (subst (λ (x : ℕ). IsUsed old.budget x (opened_operations k phase) d4) (sym (vars_four ∙ vars_three)) (used_words old.budget variables (opened_operations k phase) d3 d4 filled used_three))

    pub prepared : IsPrepared s (record { care = care; words = steps; least = w.least }) d4
    prepared = record {
      handles = handles;
      start = λ n. start_gives k phase s.rising.nets.now n is.rising.inputs steps.given steps.setting d3 d4 roots copied;
      given = λ bits. record {
        inputs = λ m net e kind.
            (roots.setting bits).inputs m net e kind ∙ sym (stays.shown m (bits_of bits) (below m (slice_get_within k.circuit.nets m net e)));
        held = λ at hold e plain.
            (roots.setting bits).held at hold e plain ∙ sym (stays.shown hold.net.0 (bits_of bits) (below hold.net.0 (slice_get_within k.circuit.nets hold.net.0 plain.0 plain.1)));
      };
      live = (let live = opened.care_live in let longer = keeps.adds.longer in omega (arith, live, longer));
      cared = λ bits. keeps.adds.kept care.0 opened.care_live (bits_of bits) ∙ opened.care_is bits;
      least = (
        (
            let span = least_span s.counts w d2 words in
            let own = own_four in
            let more = keeps.len in (omega (arith, own, span.0), omega (arith, len, more, span.1))
            ),
        (
            let size = words.least_len in
            let same : s.counts.variables ≡ phase_variables s = ap (λ (c : WordCounts). c.variables) is.counts in
            let a = vars_three in
            let b = vars_four in omega (arith, size, same, a, b)
            ),
      );
      used = used_four;
      vars = vars_four ∙ vars_three;
      budget = (let least = room.budget in let same = budget_four in omega (arith, least, same));
    }
