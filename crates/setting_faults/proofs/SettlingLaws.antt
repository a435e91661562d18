-- What the bare circuit and the kept one give together.
use Rattle.std.proofs.Common.{◌≡◌, ℕ, ◌+◌, ◌*◌, ◌<◌, ◌⊎◌, Bool, true, List, Some, None, length, ap, arith, subst, sym, ◌∙◌, inl, inr}
use Rattle.std.specs.Prelude.{◌↔◌}
use Rattle.std.proofs.lemmas.Option.{slice_get_within}
use Rattle.node_pool.specs.declared.region.Span.{Span}
use Rattle.bdd_core.proofs.Frames.{adds_then, beside_of, two_filled, two_span, two_word}
use Rattle.bdd_core.specs.Diagram.{IsWithin, Valuation, meaning}
use Rattle.bdd_core.specs.Store.{Adds, Diagrams, IsLive, function_of}
use Rattle.bdd_core.specs.Words.{IsFilled, WritesTwo, shows, word_at}
use Rattle.bdd_core.specs.declared.handle.H.{H}
use Rattle.bdd_ops.proofs.WithinLaws.{span_kept, within_same}
use Rattle.bdd_ops.specs.Counting.{IsSpanWithin}
use Rattle.channel_parts.specs.OneSolution.{AreObserved}
use Rattle.channel_parts.specs.declared.part.Part.{Part}
use Rattle.circuit_faults.proofs.KeptSpots.{fight_spot, unsettled_spot}
use Rattle.circuit_faults.specs.Cases.{CaseIn, HasStepFault}
use Rattle.circuit_faults.specs.Faults.{HasFault, HasFixedBits, IsSolvedAt, SolvedCase}
use Rattle.circuit_faults.specs.KeptFaults.{HasKeptFault}
use Rattle.circuit_faults.specs.KeptResults.{HasKeptSpans, IsFirstKept, KeptGives, WritesKept}
use Rattle.circuit_faults.specs.Results.{HasCircuitSpans, IsClearCircuit, IsFirstFault, root_at}
use Rattle.circuit_faults.specs.Steps.{InPhase, part_list, phase_of}
use Rattle.circuit_faults.specs.declared.kept_net.KeptFault.{KeptFault}
use Rattle.circuit_faults.specs.declared.net.CircuitFault.{CircuitFault}
use Rattle.circuit_faults.specs.declared.spans.KeptSpans.{KeptSpans}
use Rattle.fault_places.specs.Searches.{Spot}
use Rattle.setting_faults.proofs.PartOrder.{steps_kinds}
use Rattle.setting_faults.specs.Settling.{HasCircuitFault, IsSettled, IsUnsettled, WritesSettled}
use Rattle.vrt_model.specs.Reading.{Partial}
use Rattle.vrt_model.specs.State.{Setting}
use Rattle.vrt_model.specs.declared.circuit.Circuit.{Circuit}
use Rattle.vrt_model.specs.declared.rules.Phase.{Phase}
use Rattle.vrt_model.specs.declared.verdict.FaultKind.{FaultKind}
use Rattle.vrt_model.specs.declared.verdict.FaultKind.TheVariants.{Fight, FightKept, Float, Unsettled, Constraint, Differs, Next, Apart, Enter}

-- ---- faults by their kinds

bare_fault : (c : Circuit) (phase : Phase) (observed : ℕ → Bool) (setting : Setting) (a : Partial) (kind : FaultKind) (n : ℕ) → (kind ≡ Fight) ⊎ (kind ≡ Float)
    → HasCircuitFault c phase observed setting a kind n → HasFault c phase observed setting a kind n
bare_fault c phase observed setting a kind n of (inl bare) = bare
bare_fault c phase observed setting a kind n (inl e) (inr kept) = absurd (subst (λ (q : FaultKind). HasKeptFault c phase observed setting a q n) e kept)
bare_fault c phase observed setting a kind n (inr e) (inr kept) = absurd (subst (λ (q : FaultKind). HasKeptFault c phase observed setting a q n) e kept)

lost_fault : (c : Circuit) (phase : Phase) (observed : ℕ → Bool) (setting : Setting) (a : Partial) (kind : FaultKind) (n : ℕ) → (kind ≡ FightKept) ⊎ (kind ≡ Unsettled)
    → HasCircuitFault c phase observed setting a kind n → HasKeptFault c phase observed setting a kind n
lost_fault c phase observed setting a kind n of (inr kept) = kept
lost_fault c phase observed setting a kind n (inl e) (inl bare) = absurd (subst (λ (q : FaultKind). HasFault c phase observed setting a q n) e bare)
lost_fault c phase observed setting a kind n (inr e) (inl bare) = absurd (subst (λ (q : FaultKind). HasFault c phase observed setting a q n) e bare)

step_fault : (w : InPhase) (setting : Setting) (a : Partial) (kind : FaultKind) (n : ℕ) → (kind ≡ Fight) ⊎ (kind ≡ Float)
    → HasStepFault w setting a kind n ↔ HasFault w.circuit (phase_of w) w.observed setting a kind n
step_fault w setting a kind n (inl e) =
    subst (λ (q : FaultKind). HasStepFault w setting a q n ↔ HasFault w.circuit (phase_of w) w.observed setting a q n) (sym e) (λ f. f, λ f. f)
step_fault w setting a kind n (inr e) =
    subst (λ (q : FaultKind). HasStepFault w setting a q n ↔ HasFault w.circuit (phase_of w) w.observed setting a q n) (sym e) (λ f. f, λ f. f)

-- ---- a fault of the bare circuit

pub bare_unsettled : (w : InPhase) → w.steps ≡ part_list (length w.parts) → (care : H) (roots : Span) (fault : CircuitFault) (old new : Diagrams) → IsFirstFault w care roots fault old new
    → IsUnsettled w.circuit (phase_of w) w.observed care roots fault.at old new
bare_unsettled w all care roots fault old new first =
    let spot : Spot = record { kind = fault.kind; at = fault.place } in
    let kind = steps_kinds w all spot (first.found.place, first.found.stands) in
    record {
      live = first.live;
      some = first.some;
      kind = fault.kind;
      net = fault.place;
      exact = λ v setting a solved.
          let here : CaseIn w (root_at old roots) = record { valuation = v; setting = setting; solution = a; solved = solved } in
          let both = step_fault w setting a fault.kind fault.place kind in (
            λ e. (let stands = (first.found.exact here).0 e in (stands.0, inl (both.0 stands.1))),
            λ h. (first.found.exact here).1 (h.0, both.1 (bare_fault w.circuit (phase_of w) w.observed setting a fault.kind fault.place kind h.1)),
          );
    }

-- ---- the bits of the roots in a later store

module _ (c : Circuit) (phase : Phase) (observed : ℕ → Bool) (care : H) (roots gates : Span) (old mid : Diagrams)
    (same : (n : ℕ) (v : Valuation) → n < length c.nets → shows mid roots n v ≡ shows old roots n v) where
  pub fixed_later : ((v : Valuation) → HasFixedBits c phase (root_at old roots v)) → (v : Valuation) → HasFixedBits c phase (root_at mid roots v)
  fixed_later fixed v n b is = same n v (slice_get_within c.nets n is.0 is.1) ∙ fixed v n b is

  solved_later : (v : Valuation) (setting : Setting) (a : Partial) → IsSolvedAt c phase observed (root_at old roots v) setting a → IsSolvedAt c phase observed (root_at mid roots v) setting a
  solved_later v setting a solved = record {
    given = record {
      inputs = λ n net e kind. solved.given.inputs n net e kind ∙ sym (same n v (slice_get_within c.nets n net e));
      held = λ at hold e plain. solved.given.held at hold e plain ∙ sym (same hold.net.0 v (slice_get_within c.nets hold.net.0 plain.0 plain.1));
    };
    solves = solved.solves;
  }

  module _ (cared : (v : Valuation) → function_of mid care v ≡ function_of old care v) where
    abbrev Later : Type 0
    Later = SolvedCase c phase observed (root_at mid roots)

    abbrev later : (v : Valuation) (setting : Setting) (a : Partial) → IsSolvedAt c phase observed (root_at old roots v) setting a → Later
    later v setting a solved = record { valuation = v; setting = setting; solution = a; solved = solved_later v setting a solved }

    -- a fault of the kept circuit
    pub kept_unsettled : (new : Diagrams) (fault : KeptFault) → IsFirstKept c phase observed care roots fault mid new → IsUnsettled c phase observed care roots fault.at old new
    kept_unsettled new fault first = record {
      live = first.live.0;
      some = first.some;
      kind = fault.kind;
      net = fault.net.0;
      exact = λ v setting a solved.
          let here = first.found.exact (later v setting a solved) in (
            λ e. (let stands = here.0 e in (sym (cared v) ∙ stands.0, inr stands.1)),
            λ h. here.1 (cared v ∙ h.0, lost_fault c phase observed setting a fault.kind fault.net.0 first.kinds h.1),
          );
    }

    -- no fault
    module _ (seen : AreObserved c observed) (new : Diagrams) (clear : IsClearCircuit c phase observed care roots gates mid mid) (none : KeptGives c phase observed care roots mid new None)
        (stay : (n : ℕ) (v : Valuation) → n < length c.nets → shows new gates n v ≡ shows mid gates n v) where
      no_kept : (v : Valuation) (setting : Setting) (a : Partial) → function_of old care v ≡ true → IsSolvedAt c phase observed (root_at old roots v) setting a
          → (kind : FaultKind) (n : ℕ) → ¬ HasKeptFault c phase observed setting a kind n
      no_kept v setting a met solved FightKept n stands =
          none (2 * n) (record { kind = FightKept; at = n }) (later v setting a solved) (fight_spot c n (slice_get_within c.nets n stands.0.0 stands.0.1)) (cared v ∙ met) stands
      no_kept v setting a met solved Unsettled n stands =
          none (2 * n + 1) (record { kind = Unsettled; at = n }) (later v setting a solved) (unsettled_spot c n (seen.nets n stands.0)) (cared v ∙ met) stands
      no_kept v setting a met solved Fight n stands = stands
      no_kept v setting a met solved Float n stands = stands
      no_kept v setting a met solved Constraint n stands = stands
      no_kept v setting a met solved Differs n stands = stands
      no_kept v setting a met solved Next n stands = stands
      no_kept v setting a met solved Apart n stands = stands
      no_kept v setting a met solved Enter n stands = stands

      pub both_settled : IsSettled c phase observed care roots gates old new
      both_settled = record {
        bits = λ v setting a met solved n is.
            clear.bits v setting a (cared v ∙ met) (solved_later v setting a solved) n is ∙ ap (λ (b : Bool). Some b) (sym (stay n v (seen.nets n is)));
        clear = λ v setting a met solved kind n stands. elim stands [
          | inl bare ↦ clear.clear v setting a (cared v ∙ met) (solved_later v setting a solved) kind n bare
          | inr kept ↦ no_kept v setting a met solved kind n kept
        ];
      }

-- ---- the store

module _ (c : Circuit) (parts kept : List Part) (spans : KeptSpans) (old mid : Diagrams) (bare : HasCircuitSpans c parts spans.roots spans.gates spans.out old)
    (h : HasKeptSpans c kept spans old) (w : WritesTwo spans.gates spans.out old mid) where
  pub kept_spans_later : IsFilled mid spans.gates → HasKeptSpans c kept spans mid
  kept_spans_later live = record {
    roots_span = two_span spans.gates spans.out spans.roots old mid w h.roots_span;
    roots_len = h.roots_len;
    roots_live = two_filled spans.gates spans.out spans.roots old mid w bare.roots_gates bare.roots_out h.roots_live;
    gates_span = two_span spans.gates spans.out spans.gates old mid w h.gates_span;
    gates_len = h.gates_len;
    gates_live = live;
    zeros_span = two_span spans.gates spans.out spans.zeros old mid w h.zeros_span;
    zeros_len = h.zeros_len;
    ones_span = two_span spans.gates spans.out spans.ones old mid w h.ones_span;
    ones_len = h.ones_len;
    out_span = two_span spans.gates spans.out spans.out old mid w h.out_span;
    room = h.room;
    roots_zeros = h.roots_zeros;
    roots_ones = h.roots_ones;
    roots_out = h.roots_out;
    gates_zeros = h.gates_zeros;
    gates_ones = h.gates_ones;
    gates_out = h.gates_out;
    zeros_ones = h.zeros_ones;
    zeros_out = h.zeros_out;
    ones_out = h.ones_out;
  }

  root_word : (n : ℕ) → n < spans.roots.len → word_at mid spans.roots n ≡ word_at old spans.roots n
  root_word n lt = two_word spans.gates spans.out spans.roots old mid w bare.roots_gates bare.roots_out n lt

  pub roots_later : (n : ℕ) (v : Valuation) → n < length c.nets → shows mid spans.roots n v ≡ shows old spans.roots n v
  roots_later n v lt =
      let len = h.roots_len in
      let within : n < spans.roots.len = omega (arith, lt, len) in
      ap (λ (x : ℕ). meaning mid.nodes x v) (root_word n within) ∙ w.adds.kept (word_at old spans.roots n) (h.roots_live n within) v

  pub roots_within : (u : ℕ) → IsSpanWithin u old spans.roots → IsSpanWithin u mid spans.roots
  roots_within u all = span_kept u spans.roots old mid root_word (λ n lt. w.adds.kept (word_at old spans.roots n) (h.roots_live n lt)) all

  pub bare_writes : WritesSettled spans old mid
  bare_writes = record { adds = w.adds; len = w.len; others = λ j gates zeros ones out. w.others j gates out }

  -- and then the kept circuit
  module _ (new : Diagrams) (k : WritesKept spans mid new) (live : IsFilled mid spans.gates) where
    pub both_writes : WritesSettled spans old new
    both_writes = record {
      adds = adds_then old mid new mid.words new.words w.adds k.adds;
      len = k.len ∙ w.len;
      others = λ j gates zeros ones out. k.others j zeros ones out ∙ w.others j gates out;
    }

    gate_word : (n : ℕ) → n < spans.gates.len → word_at new spans.gates n ≡ word_at mid spans.gates n
    gate_word n lt =
        k.others (spans.gates.start + n) (beside_of spans.gates spans.zeros n h.gates_zeros lt) (beside_of spans.gates spans.ones n h.gates_ones lt)
        (beside_of spans.gates spans.out n h.gates_out lt)

    pub gates_live_later : IsFilled new spans.gates
    gates_live_later n lt = (let same = gate_word n lt in let before = live n lt in let longer = k.adds.longer in omega (arith, same, before, longer))

    pub gates_later : (n : ℕ) (v : Valuation) → n < length c.nets → shows new spans.gates n v ≡ shows mid spans.gates n v
    gates_later n v lt =
        let len = h.gates_len in
        let within : n < spans.gates.len = omega (arith, lt, len) in
        ap (λ (x : ℕ). meaning new.nodes x v) (gate_word n within) ∙ k.adds.kept (word_at mid spans.gates n) (live n within) v

    pub gates_within : (u : ℕ) → IsSpanWithin u mid spans.gates → IsSpanWithin u new spans.gates
    gates_within u all = span_kept u spans.gates mid new gate_word (λ n lt. k.adds.kept (word_at mid spans.gates n) (live n lt)) all

pub care_later : (old mid : Diagrams) (words : List ℕ) (care : H) → Adds old mid words → IsLive old care → (v : Valuation) → function_of mid care v ≡ function_of old care v
care_later old mid words care adds live v = adds.kept care.0 live v

pub care_within : (u : ℕ) (old mid : Diagrams) (words : List ℕ) (care : H) → Adds old mid words → IsLive old care → IsWithin u (function_of old care) → IsWithin u (function_of mid care)
care_within u old mid words care adds live all = within_same u (function_of old care) (function_of mid care) (adds.kept care.0 live) all
