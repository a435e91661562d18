-- What stands in the store of a phase when it is opened.
use Rattle.std.proofs.Common.{◌≡◌, ℕ, ◌+◌, ◌<◌, Bool, true, false, cond, List, length, Option, Some, None, arith, ap, refl, sym, subst, ◌∙◌, eqb, inl, inr, ◌≤◌}
use Rattle.std.specs.Prelude.{find, option_map, unwrap_or}
use Rattle.std.specs.List.{list_any}
use Rattle.std.proofs.lemmas.Bool.{cases_lt, eq-eqb, eqb-true, false≢true}
use Rattle.std.proofs.lemmas.Option.{none-some, same_Some, slice_get_within}
use Rattle.node_pool.specs.declared.region.Span.{Span}
use Rattle.bdd_core.proofs.Bound.{within_place}
use Rattle.bdd_core.proofs.Frames.{two_filled, two_word}
use Rattle.bdd_core.proofs.Steps.{top-append}
use Rattle.bdd_core.specs.Diagram.{IsReduced, TestsWithin, Valuation, meaning, top}
use Rattle.bdd_core.specs.Store.{Diagrams}
use Rattle.bdd_core.specs.Words.{IsApart, IsFilled, WritesTwo, shows, word_at}
use Rattle.bdd_ops.specs.Counting.{IsCounted, IsSpanWithin}
use Rattle.bdd_ops.specs.Ops.{bits_of}
use Rattle.circuit_faults.specs.Faults.{IsSettingAt}
use Rattle.circuit_faults.specs.Results.{root_at}
use Rattle.constraints.specs.Cared.{HasInputs}
use Rattle.hold_keep.proofs.BitLaws.{constant_is}
use Rattle.hold_keep.specs.Rooted.{AreRoots, WritesHolds, held_function}
use Rattle.phase_open.proofs.Settings.{held_read}
use Rattle.phase_open.proofs.Sources.{element_variable, input_at, input_variable}
use Rattle.phase_open.specs.Given.{AreGiven, HasModelInputs, input_count, root_by, variable_at}
use Rattle.phase_terms.specs.Opened.{AreRootsOpen, IsModelOpen}
use Rattle.vrt_model.proofs.Members.{among_any, any_among, find_among}
use Rattle.vrt_model.specs.Comparison.{Comparison, default_clock_bit, phase_at}
use Rattle.vrt_model.specs.Elements.{element_names}
use Rattle.vrt_model.specs.Held.{setting_of, sources_of}
use Rattle.vrt_model.specs.Known.{HasFixedBit}
use Rattle.vrt_model.specs.Lists.{Among, At}
use Rattle.vrt_model.specs.ModelArcs.{carried_bits}
use Rattle.vrt_model.specs.Reading.{clock_bit}
use Rattle.vrt_model.specs.declared.circuit.Circuit.{Circuit}
use Rattle.vrt_model.specs.declared.circuit.FlatNet.{FlatNet}
use Rattle.vrt_model.specs.declared.circuit.Hold.{Hold}
use Rattle.vrt_model.specs.declared.circuit.NetKind.{NetKind}
use Rattle.vrt_model.specs.declared.circuit.NetKind.TheVariants.{Supply, Clock, Input, Plain}
use Rattle.vrt_model.specs.declared.pairing.ClockedSignal.{ClockedSignal}
use Rattle.vrt_model.specs.declared.rules.Phase.{Phase}

-- ---- held values

-- the words of hold nets are words of the roots
pub holds_two : (c : Circuit) (roots : Span) (old new : Diagrams) → ((place : ℕ) (h : Hold) → At c.holds place h → h.net.0 < roots.len) → WritesHolds c roots old new
    → WritesTwo roots roots old new
holds_two c roots old new inside w = record {
  adds = record { rest = w.rest; sound = w.sound; within = w.within; longer = w.longer; kept = w.kept };
  len = w.len;
  others = λ j beside also. w.others j (λ place h at e.
      let lt = inside place h at in
      elim beside [ inl low ↦ omega (arith, low, e) | inr high ↦ omega (arith, high, e, lt) ]);
}

-- the words of hold nets are among those of a longer span
pub holds_wider : (c : Circuit) (roots : Span) (len : ℕ) (old new : Diagrams) → WritesHolds c (record { start = roots.start; len = len }) old new → WritesHolds c roots old new
holds_wider c roots len old new w =
    record { rest = w.rest; sound = w.sound; within = w.within; longer = w.longer; kept = w.kept; len = w.len; others = w.others }

-- each word of the roots has a live handle
pub held_filled : (c : Circuit) (roots : Span) (old new : Diagrams) (f : ℕ → Valuation → Bool) → WritesHolds c roots old new → AreRoots c roots new f → IsFilled old roots → IsFilled new roots
held_filled c roots old new f w are live k lt = by_test (list_any at_net c.holds) refl
  where
    at_net : Hold → Bool
    at_net h = eqb h.net.0 k

    by_test : (b : Bool) → list_any at_net c.holds ≡ b → word_at new roots k < length new.nodes
    by_test true e =
        let h = any_among at_net c.holds e in
        subst (λ (n : ℕ). word_at new roots n < length new.nodes) (eqb-true h.0.net.0 k h.2) (are h.1.0 h.0 h.1.1).0
    by_test false e =
        let same = w.others (roots.start + k) (λ place h at is. false≢true (sym e ∙ among_any at_net c.holds h (place, at) (eq-eqb h.net.0 k (omega (arith, is))))) in
        omega (arith, same, live k lt, w.longer)

-- ---- the roots

fixed_root : (phase : Phase) (kind : NetKind) (x : ℕ) (f : Valuation → Bool) (v : Valuation) (b : Bool) → HasFixedBit phase kind b → root_by phase kind x f v ≡ b
fixed_root phase (Supply value) x f v b is = sym is
fixed_root phase (Clock clock) x f v b is = sym is
fixed_root phase Input x f v b is = absurd is
fixed_root phase Plain x f v b is = absurd is

module _ (k : Comparison) (phase : ℕ) (roots : Span) (old new : Diagrams) (len : length k.circuit.nets ≤ roots.len) (given : AreGiven k.circuit (phase_at k.rules phase) roots old new) where
  abbrev this : Phase
  this = phase_at k.rules phase

  root_of : (n : ℕ) (net : FlatNet) → At k.circuit.nets n net → (v : Valuation) → shows new roots n v ≡ root_by this net.kind (variable_at k.circuit n) (λ w. shows old roots n w) v
  root_of n net e v = given n net (slice_get_within k.circuit.nets n net e) e v

  root_input : (n : ℕ) (net : FlatNet) → At k.circuit.nets n net → net.kind ≡ Input → (v : Valuation) → shows new roots n v ≡ v (variable_at k.circuit n)
  root_input n net e kind v = root_of n net e v ∙ ap (λ (x : NetKind). root_by this x (variable_at k.circuit n) (λ w. shows old roots n w) v) kind

  root_plain : (n : ℕ) (net : FlatNet) → At k.circuit.nets n net → net.kind ≡ Plain → (v : Valuation) → shows new roots n v ≡ shows old roots n v
  root_plain n net e kind v = root_of n net e v ∙ ap (λ (x : NetKind). root_by this x (variable_at k.circuit n) (λ w. shows old roots n w) v) kind

  -- the word of each input has the handle of its variable
  pub inputs_there : HasInputs k.circuit (sources_of k phase) new roots
  inputs_there n net e kind v = root_input n net e kind v ∙ sym (input_at k phase v n net e kind)

  setting_there : AreRoots k.circuit roots old (held_function k.circuit k.groups phase (sources_of k phase)) → (bits : List Bool)
      → IsSettingAt k.circuit (root_at new roots (bits_of bits)) (setting_of k phase bits)
  unfolding setting_of
  setting_there held bits = record {
    inputs = λ n net e kind. input_variable k phase bits n net e kind ∙ sym (root_input n net e kind (bits_of bits));
    held = λ at hold e plain.
        sym (held_read (sources_of k phase) bits k.circuit k.groups phase at) ∙ sym ((held at hold e).1 (bits_of bits)) ∙ sym (root_plain hold.net.0 plain.0 plain.1 plain.2 (bits_of bits));
  }

  pub roots_open : IsFilled new roots → AreRoots k.circuit roots old (held_function k.circuit k.groups phase (sources_of k phase)) → AreRootsOpen k phase roots new
  roots_open live held = record {
    live = live;
    fixed = λ v n b f. root_of n f.0 f.1 v ∙ fixed_root this f.0.kind (variable_at k.circuit n) (λ w. shows old roots n w) v b f.2;
    setting = setting_there held;
  }

-- ---- what stays

module _ (a b span : Span) (old new : Diagrams) (w : WritesTwo a b old new) (apart_a : IsApart span a) (apart_b : IsApart span b) (live : IsFilled old span) where
  shows_two : (n : ℕ) (v : Valuation) → n < span.len → shows new span n v ≡ shows old span n v
  shows_two n v lt = ap (λ (h : ℕ). meaning new.nodes h v) (two_word a b span old new w apart_a apart_b n lt) ∙ w.adds.kept (word_at old span n) (live n lt) v

  pub roots_stay : (k : Comparison) (phase : ℕ) → length k.circuit.nets ≤ span.len → AreRootsOpen k phase span old → AreRootsOpen k phase span new
  roots_stay k phase len are = record {
    live = two_filled a b span old new w apart_a apart_b live;
    fixed = λ v n bit f. shows_two n v (below n f.0 f.1) ∙ are.fixed v n bit f;
    setting = λ bits. record {
      inputs = λ n net e kind. (are.setting bits).inputs n net e kind ∙ sym (shows_two n (bits_of bits) (below n net e));
      held = λ at hold e plain. (are.setting bits).held at hold e plain ∙ sym (shows_two hold.net.0 (bits_of bits) (below hold.net.0 plain.0 plain.1));
    };
  }
    where
      below : (n : ℕ) (net : FlatNet) → At k.circuit.nets n net → n < span.len
      below n net e = let inside = slice_get_within k.circuit.nets n net e in omega (arith, inside, len)

-- ---- the model

-- a bit that a signal carries is that of a clock
carried : (phase : Phase) (clocked : List ClockedSignal) (s : ℕ) (b : Bool) → carried_bits phase clocked s ≡ Some b
    → (c : ClockedSignal) × Among clocked c × (c.signal ≡ s) × (clock_bit phase c.clock ≡ b)
carried phase clocked s b e = by_found (find (λ (c : ClockedSignal). eqb c.signal s) clocked) refl e
  where
    by_found : (o : Option ClockedSignal) → find (λ (c : ClockedSignal). eqb c.signal s) clocked ≡ o → option_map (λ (c : ClockedSignal). clock_bit phase c.clock) o ≡ Some b
        → (c : ClockedSignal) × Among clocked c × (c.signal ≡ s) × (clock_bit phase c.clock ≡ b)
    by_found None is none = absurd (none-some b none)
    by_found (Some c) is some =
        let there = find_among (λ (x : ClockedSignal). eqb x.signal s) clocked c is in
        (c, there.0, eqb-true c.signal s there.1, same_Some (clock_bit phase c.clock) b some)

module _ (k : Comparison) (phase : ℕ) (inputs held : Span) (mid new : Diagrams) (given : HasModelInputs k phase inputs new) (live : IsFilled new held)
    (count : held.len ≡ length (element_names k.model)) (same : (e : ℕ) (v : Valuation) → e < held.len → shows new held e v ≡ shows mid held e v) (first : ℕ) (first_is : first ≡ input_count k.circuit)
    (elements : (e : ℕ) → e < held.len → (v : Valuation) → shows mid held e v ≡ v (first + e)) where
  element_there : (bits : List Bool) (e : ℕ) → e < length (element_names k.model) → shows new held e (bits_of bits) ≡ (setting_of k phase bits).elements e
  unfolding setting_of
  element_there bits e lt =
      let inside : e < held.len = omega (arith, lt, count) in
      same e (bits_of bits) inside ∙ elements e inside (bits_of bits) ∙ ap (λ (n : ℕ). bits_of bits (n + e)) first_is ∙ sym (element_variable k phase bits e lt)

  pub model_open : IsModelOpen k phase inputs held new
  model_open = record {
    inputs_live = given.live;
    clocked = λ v c m. ap (λ (h : ℕ). meaning new.nodes h v) (given.clocked c m) ∙ constant_is new.nodes v (clock_bit (phase_at k.rules phase) c.clock);
    tied = given.tied;
    default = λ v.
        ap (λ (h : ℕ). meaning new.nodes h v) given.default ∙ constant_is new.nodes v (unwrap_or (default_clock_bit k.rules (phase_at k.rules phase)) false);
    known = λ s b lt e.
        let c = carried (phase_at k.rules phase) k.pairing.clocked s b e in
        subst (λ (x : ℕ). word_at new inputs x ≡ cond b 1 0) c.2 (given.clocked c.0 c.1 ∙ ap {B = ℕ} (λ (x : Bool). cond x 1 0) c.3);
    clock = λ b e. given.default ∙ ap {B = ℕ} (λ (o : Option Bool). cond (unwrap_or o false) 1 0) e;
    held_live = live;
    elements = element_there;
  }

-- ---- what handles read

-- nodes that were added for functions of the first variables test these
pub tests_more : (u operations : ℕ) (old new : Diagrams) → IsCounted u operations old new → TestsWithin u old.nodes → TestsWithin u new.nodes
tests_more u operations old new s tests i high within = elim (cases_lt i (length old.nodes)) [
  | inl low ↦
      let kept : top new.nodes i ≡ top old.nodes i = ap (λ ns. top ns i) s.is ∙ top-append old.nodes s.more i low in
      omega (arith, tests i high low, kept)
  | inr added ↦ s.early i added within
]

pub span_reads : (u : ℕ) (span : Span) (d : Diagrams) → IsReduced d.vars d.nodes → TestsWithin u d.nodes → IsFilled d span → IsSpanWithin u d span
span_reads u span d sound tests live k lt = within_place d.vars u d.nodes (word_at d span k) sound tests (live k lt)
