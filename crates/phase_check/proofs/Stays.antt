-- What stands in spans that a step does not write, and what a phase knows after such a step.
use Rattle.std.proofs.Common.{◌≡◌, ℕ, ◌+◌, ◌<◌, ◌≤◌, Bool, List, [], Some, length, arith, ap, refl, sym, subst, ◌∙◌, inl, inr}
use Rattle.std.proofs.lemmas.Option.{slice_get_within}
use Rattle.node_pool.specs.declared.region.Span.{Span}
use Rattle.bdd_core.proofs.Frames.{beside_of, word_added, word_beside}
use Rattle.std.specs.Prelude.{◌≢◌}
use Rattle.bdd_core.specs.Diagram.{IsReduced, Valuation, meaning}
use Rattle.bdd_core.specs.Store.{Adds, AddsNodes, Diagrams, IsCanonical}
use Rattle.bdd_core.specs.Words.{IsApart, IsBeside, IsFilled, Writes, shows, word_at}
use Rattle.bdd_core.specs.declared.handle.H.{H}
use Rattle.bdd_ops.specs.Counting.{IsCounted}
use Rattle.bdd_ops.specs.Ops.{bits_of}
use Rattle.circuit_faults.proofs.ThreeSpans.{net_beside, three_word}
use Rattle.circuit_faults.specs.KeptResults.{WritesKept}
use Rattle.circuit_faults.specs.Results.{WritesThree, output_span}
use Rattle.circuit_faults.specs.declared.spans.KeptSpans.{KeptSpans}
use Rattle.fault_places.specs.Searches.{Spot}
use Rattle.phase_check.proofs.Ends.{adds_now}
use Rattle.phase_laws.proofs.Observed.{observed_nets}
use Rattle.phase_check.proofs.Somewhere.{some_care}
use Rattle.phase_check.proofs.Spans.{words_kept}
use Rattle.vrt_model.proofs.Members.{at_none}
use Rattle.phase_laws.proofs.Work.{used_more}
use Rattle.phase_check.specs.States.{HasNetBits, IsClearAt, IsOpened, IsSearched, IsSolved}
use Rattle.phase_terms.specs.Opened.{AreRootsOpen, IsModelOpen, IsOpen}
use Rattle.phase_terms.specs.Ready.{IsReady}
use Rattle.phase_terms.specs.Stores.{HasPhaseWords, IsPhaseStore, IsUsed, counts_of}
use Rattle.phase_terms.specs.declared.words.PhaseWords.{PhaseWords}
use Rattle.vrt_model.specs.Comparison.{Comparison}
use Rattle.vrt_model.specs.Held.{setting_of, sources_of}
use Rattle.vrt_model.specs.State.{output_pins}
use Rattle.vrt_model.specs.declared.circuit.Circuit.{Circuit}

-- the words of a span and their functions stay
pub record Stays (span : Span) (old new : Diagrams) : Type 0 where
  pub word : (n : ℕ) → n < span.len → word_at new span n ≡ word_at old span n
  pub live : IsFilled old span → IsFilled new span
  pub shown : IsFilled old span → (n : ℕ) (v : Valuation) → n < span.len → shows new span n v ≡ shows old span n v

stays_of : (span : Span) (old new : Diagrams) → Adds old new new.words → ((n : ℕ) → n < span.len → word_at new span n ≡ word_at old span n) → Stays span old new
stays_of span old new adds same = record {
  word = same;
  live = λ live n lt. omega (arith, same n lt, live n lt, adds.longer);
  shown = λ live n v lt. ap (λ (h : ℕ). meaning new.nodes h v) (same n lt) ∙ adds.kept (word_at old span n) (live n lt) v;
}

pub stays_one : (out span : Span) (old new : Diagrams) → Writes out old new → IsApart span out → Stays span old new
stays_one out span old new w apart = stays_of span old new w.adds (λ n lt. word_beside out span old new n w apart lt)

pub stays_kept : (spans : KeptSpans) (span : Span) (old new : Diagrams) → WritesKept spans old new → IsApart span spans.zeros → IsApart span spans.ones → IsApart span spans.out → Stays span old new
stays_kept spans span old new w zeros ones out =
    stays_of span old new w.adds
    (λ n lt. w.others (span.start + n) (beside_of span spans.zeros n zeros lt) (beside_of span spans.ones n ones lt) (beside_of span spans.out n out lt))

pub stays_three : (c : Circuit) (roots gates out span : Span) (old new : Diagrams) → WritesThree (output_span c roots) gates out old new → length c.nets + length (output_pins c) ≤ roots.len
    → IsApart span roots → IsApart span gates → IsApart span out → Stays span old new
stays_three c roots gates out span old new w fits apart apart_gates apart_out =
    stays_of span old new w.adds (λ n lt. three_word (output_span c roots) gates out span old new n w (beside n lt apart) apart_gates apart_out lt)
  where
    beside : (n : ℕ) → n < span.len → IsApart span roots → IsBeside (output_span c roots) (span.start + n)
    beside n lt (inl low) = inl (omega (arith, low, lt))
    beside n lt (inr high) = inr (omega (arith, high, fits))

-- the bits of the roots at nets stay
pub record NetsStay (count : ℕ) (roots : Span) (old new : Diagrams) : Type 0 where
  pub live : IsFilled old roots → IsFilled new roots
  pub shown : IsFilled old roots → (n : ℕ) (v : Valuation) → n < count → shows new roots n v ≡ shows old roots n v

nets_of : (count : ℕ) (roots : Span) (old new : Diagrams) → count ≤ roots.len → Stays roots old new → NetsStay count roots old new
nets_of count roots old new le s = record { live = s.live; shown = λ live n v lt. s.shown live n v (omega (arith, lt, le)) }

pub roots_three : (c : Circuit) (roots gates out : Span) (old new : Diagrams) → WritesThree (output_span c roots) gates out old new → IsFilled new roots → length c.nets ≤ roots.len
    → IsApart roots gates → IsApart roots out → NetsStay (length c.nets) roots old new
roots_three c roots gates out old new w filled fits apart_gates apart_out = record {
  live = λ _. filled;
  shown = λ live n v lt.
      let within : n < roots.len = omega (arith, lt, fits) in
      ap (λ (h : ℕ). meaning new.nodes h v) (three_word (output_span c roots) gates out roots old new n w (net_beside c roots n lt) apart_gates apart_out within)
      ∙ w.adds.kept (word_at old roots n) (live n within) v;
}

pub stays_added : (span : Span) (old new : Diagrams) → AddsNodes old new → Stays span old new
stays_added span old new adds = stays_of span old new (adds_now old new adds) (λ n lt. word_added span old new n adds)

-- ---- what was opened

module _ (k : Comparison) (phase : ℕ) (ready : IsReady k) (w : PhaseWords) (old new : Diagrams) (words : HasPhaseWords (counts_of k old.vars) w old) (adds : Adds old new new.words) where
  roots_stay : NetsStay (length k.circuit.nets) w.roots old new → AreRootsOpen k phase w.roots old → AreRootsOpen k phase w.roots new
  roots_stay s o = record {
    live = s.live o.live;
    fixed = λ v n b f. (let lt = slice_get_within k.circuit.nets n f.0 f.1 in s.shown o.live n v lt) ∙ o.fixed v n b f;
    setting = λ bits. record {
      inputs = λ n net e kind.
          (o.setting bits).inputs n net e kind ∙ sym (let lt = slice_get_within k.circuit.nets n net e in s.shown o.live n (bits_of bits) lt);
      held = λ at hold e plain.
          (o.setting bits).held at hold e plain
          ∙ sym (let lt = slice_get_within k.circuit.nets hold.net.0 plain.0 plain.1 in s.shown o.live hold.net.0 (bits_of bits) lt);
    };
  }

  model_stays : Stays w.inputs old new → Stays w.held old new → IsModelOpen k phase w.inputs w.held old → IsModelOpen k phase w.inputs w.held new
  model_stays inputs held o = record {
    inputs_live = inputs.live o.inputs_live;
    clocked = λ v c m.
        (let lt = ready.inputs.below c.signal (ready.inputs.clocked c m) in inputs.shown o.inputs_live c.signal v (omega (arith, lt, words.inputs_len))) ∙ o.clocked v c m;
    tied = λ bits t m.
        (let lt = ready.inputs.below t.signal (ready.inputs.tied t m) in inputs.shown o.inputs_live t.signal (bits_of bits) (omega (arith, lt, words.inputs_len))) ∙ o.tied bits t m;
    default = λ v. inputs.shown o.inputs_live (length k.model.signals) v (omega (arith, words.inputs_len)) ∙ o.default v;
    known = λ s b lt e. inputs.word s (omega (arith, lt, words.inputs_len)) ∙ o.known s b lt e;
    clock = λ b e. inputs.word (length k.model.signals) (omega (arith, words.inputs_len)) ∙ o.clock b e;
    held_live = held.live o.held_live;
    elements = λ bits e lt. held.shown o.held_live e (bits_of bits) (omega (arith, lt, words.held_len)) ∙ o.elements bits e lt;
  }

  pub open_stays : (care : H) → NetsStay (length k.circuit.nets) w.roots old new → Stays w.inputs old new → Stays w.held old new → IsOpen k phase care w old → IsOpen k phase care w new
  open_stays care roots inputs held o = record {
    care_live = (let live = o.care_live in omega (arith, live, adds.longer));
    care_is = λ bits. adds.kept care.0 o.care_live (bits_of bits) ∙ o.care_is bits;
    roots = roots_stay roots o.roots;
    model = model_stays inputs held o.model;
  }

  -- the bits of nets
  pub nets_stay : Stays w.gates old new → HasNetBits k phase w old → HasNetBits k phase w new
  nets_stay s h = record {
    live = s.live h.live;
    bits = λ bits a m solves n seen.
        h.bits bits a m solves n seen
        ∙ ap (λ (b : Bool). Some b) (sym (s.shown h.live n (bits_of bits) (let lt = (observed_nets k phase ready).0.nets n seen in omega (arith, lt, words.gates_len))));
  }

-- where the bare circuit is clear the handles of the observed nets are their bits
pub solved_bits : (k : Comparison) (phase : ℕ) (care : H) (w : PhaseWords) (d : Diagrams) → IsOpen k phase care w d → IsSolved k phase care w d → HasNetBits k phase w d
solved_bits k phase care w d o s = record {
  live = s.live;
  bits = λ bits a m solves n seen.
      s.circuit.bits (bits_of bits) (setting_of k phase bits) a (o.care_is bits ∙ m) (record { given = o.roots.setting bits; solves = solves }) n seen;
}

-- ---- after further operations

module _ (k : Comparison) (phase budget a b : ℕ) (w : PhaseWords) (old new : Diagrams) (adds : Adds old new new.words) (len : length new.words ≡ length old.words)
    (counted : IsCounted (length (sources_of k phase)) b old new) where
  store_used : IsUsed budget (length (sources_of k phase)) a old → IsUsed new.budget (length (sources_of k phase)) (a + b) new
  store_used used =
      let more = used_more budget (length (sources_of k phase)) a b old new used counted in
      record { budget_is = refl; few = more.few; within = more.within }

  pub store_next : IsPhaseStore k phase budget a w old → IsPhaseStore k phase new.budget (a + b) w new
  store_next s =
      let vars : new.vars ≡ old.vars = ap (λ (d : Diagrams). d.vars) adds.rest in
      record {
        words = subst (λ (v : ℕ). HasPhaseWords (counts_of k v) w new) (sym vars) (words_kept (counts_of k old.vars) w old new (ap (λ (d : Diagrams). d.own) adds.rest) len s.words);
        vars = (let enough = s.vars in omega (arith, enough, vars));
        used = store_used s.used;
      }

  -- where the words of outputs of whole instances may change
  pub searched_more : IsReady k → (care : H) (spots more : List Spot) → NetsStay (length k.circuit.nets) w.roots old new → Stays w.inputs old new → Stays w.held old new
      → IsSearched k phase budget a spots care w old → IsClearAt k phase more → IsSearched k phase new.budget (a + b) more care w new
  searched_more ready care spots more roots inputs held s clear = record {
    store = store_next s.store;
    opened = open_stays k phase ready w old new s.store.words adds care roots inputs held s.opened;
    met = s.met;
    clear = clear;
  }

  pub searched_next : IsReady k → (care : H) (spots more : List Spot) → Stays w.roots old new → Stays w.inputs old new → Stays w.held old new
      → IsSearched k phase budget a spots care w old → IsClearAt k phase more → IsSearched k phase new.budget (a + b) more care w new
  searched_next ready care spots more roots inputs held s clear =
      searched_more ready care spots more (nets_of (length k.circuit.nets) w.roots old new (let len = s.store.words.roots_len in omega (arith, len)) roots) inputs held s clear

-- ---- an opened phase whose constraints some valuation meets

pub opened_searched : (k : Comparison) (phase budget a : ℕ) (care : H) (w : PhaseWords) (d : Diagrams) → IsOpened k phase budget a care w d → IsReduced d.vars d.nodes → IsCanonical d → care.0 ≢ 0
    → IsSearched k phase budget a [] care w d
opened_searched k phase budget a care w d is sound canonical some = record {
  store = is.store;
  opened = is.opened;
  met = some_care k phase budget a care w d is.opened is.store canonical sound some;
  clear = λ i x v e m stands. at_none i x e;
}
