-- What is found over other cases is found over those of a comparison; and what is found first there is the fault of a phase.
use Rattle.std.proofs.Common.{◌≡◌, ℕ, ◌<◌, Bool, true, List, None, length, subst, sym, refl, ◌∙◌, inl, inr}
use Rattle.std.specs.Prelude.{◌≢◌, ◌↔◌, ◌⊎◌}
use Rattle.bdd_core.specs.Diagram.{IsReduced}
use Rattle.bdd_core.specs.Store.{Diagrams, IsLive, IsSpan}
use Rattle.bdd_core.specs.declared.handle.H.{H}
use Rattle.bdd_core.specs.Words.{shows}
use Rattle.bdd_ops.specs.Ops.{bits_of}
use Rattle.circuit_faults.specs.Faults.{SolvedCase}
use Rattle.circuit_faults.specs.Results.{root_at}
use Rattle.fault_places.specs.Searches.{Case, IsClearOf, IsFoundIn, Spot, StandsIn}
use Rattle.phase_laws.proofs.Firsts.{first_fault}
use Rattle.phase_laws.proofs.OneModel.{one_model}
use Rattle.phase_check.proofs.Spans.{least_span}
use Rattle.phase_laws.proofs.Work.{live_within}
use Rattle.phase_laws.specs.Models.{HasOneModel}
use Rattle.phase_check.specs.States.{IsClearAt}
use Rattle.phase_terms.specs.Found.{AreValuesLive, IsPhaseFault, at_bits, circuit_bit, fault_spot, met, wanted_bit}
use Rattle.phase_terms.specs.Opened.{AreRootsOpen, IsOpen}
use Rattle.phase_terms.specs.Plans.{IsPhasePlan, planned_spots}
use Rattle.phase_terms.specs.Ready.{IsReady}
use Rattle.phase_terms.specs.Stores.{IsPhaseStore, counts_of}
use Rattle.phase_terms.specs.declared.found.PhaseFault.{PhaseFault}
use Rattle.phase_terms.specs.declared.plan.PhasePlan.{PhasePlan}
use Rattle.phase_terms.specs.declared.words.PhaseWords.{PhaseWords}
use Rattle.vrt_model.specs.Assignment.{Assignment}
use Rattle.vrt_model.specs.Comparison.{Comparison, is_observed, phase_at}
use Rattle.vrt_model.specs.Faults.{IsPrintedWith}
use Rattle.vrt_model.specs.Held.{setting_of, sources_of}
use Rattle.vrt_model.specs.Lists.{Among}
use Rattle.vrt_model.specs.Reading.{Partial}
use Rattle.vrt_model.specs.State.{Setting}
use Rattle.vrt_model.specs.declared.verdict.FaultKind.{FaultKind}
use Rattle.vrt_model.specs.declared.verdict.FaultKind.TheVariants.{Fight, FightKept, Float, Constraint}

-- ---- over other cases

module _ (k : Comparison) (phase : ℕ) (V : Type 0) (Here : Spot → V → Type 0) (care : V → Bool) (spots : List Spot) (to : Case k phase → V)
    (same : (y : Spot) (v : Case k phase) → Among spots y → Here y (to v) ↔ StandsIn k phase y v) (cared : (v : Case k phase) → care (to v) ≡ met k phase v.bits) where
  pub clear_case : IsClearOf Here care spots → IsClearAt k phase spots
  clear_case clear i y v here m stands = clear i y (to v) here (cared v ∙ m) ((same y v (i, here)).1 stands)

  pub found_case : (f : V → Bool) (x : Spot) → IsFoundIn Here care f spots x
      → IsFoundIn (StandsIn k phase) (λ (v : Case k phase). met k phase v.bits) (λ (v : Case k phase). f (to v)) spots x
  found_case f x found = record {
    place = found.place;
    stands = found.stands;
    exact = λ v.
        let both = same x v (found.place, found.stands) in (
          λ e. (let h = (found.exact (to v)).0 e in (sym (cared v) ∙ h.0, both.0 h.1)),
          λ h. (found.exact (to v)).1 (cared v ∙ h.0, both.1 h.1),
        );
    before = λ i y v lt here m stands. found.before i y (to v) lt here (cared v ∙ m) ((same y v (i, here)).1 stands);
  }

-- a case of the comparison is one of the circuit, at the bits of its roots
abbrev pub solved_case : (k : Comparison) (phase : ℕ) (w : PhaseWords) (d : Diagrams) → AreRootsOpen k phase w.roots d → Case k phase
    → SolvedCase k.circuit (phase_at k.rules phase) (is_observed k phase) (root_at d w.roots)
solved_case k phase w d roots v = record {
  valuation = bits_of v.bits;
  setting = setting_of k phase v.bits;
  solution = v.solution;
  solved = record { given = roots.setting v.bits; solves = v.solves };
}

-- ---- the model

pub model_of : (k : Comparison) (phase : ℕ) (plan : PhasePlan) (w : PhaseWords) (d : Diagrams) (care : H) → IsReady k → IsPhasePlan k phase plan → IsOpen k phase care w d → HasOneModel k phase
model_of k phase plan w d care ready is o =
    one_model k phase plan (λ bits s. shows d w.inputs s (bits_of bits)) ready is
    (record { clocked = λ bits c m. o.model.clocked (bits_of bits) c m; tied = λ bits t m. o.model.tied bits t m })

-- ---- the fault of a phase

module _ (k : Comparison) (phase : ℕ) (plan : PhasePlan) (ready : IsReady k) (range : phase < length k.rules.phases) (is : IsPhasePlan k phase plan) (model : HasOneModel k phase) where
  pub phase_fault : (fault : PhaseFault) (budget a : ℕ) (w : PhaseWords) (d : Diagrams) → IsPhaseStore k phase budget a w d → IsReduced d.vars d.nodes
      → fault.least ≡ w.least → IsLive d fault.at → fault.at.0 ≢ 0 → AreValuesLive d fault.values
      → IsFoundIn (StandsIn k phase) (λ (v : Case k phase). met k phase v.bits) (λ (v : Case k phase). at_bits d fault.at v.bits) (planned_spots k plan) (fault_spot fault)
      → ((v : Case k phase) → at_bits d fault.at v.bits ≡ true
      → IsPrintedWith k phase (setting_of k phase v.bits) v.solution v.assignment fault.kind fault.place (circuit_bit d fault.values v.bits) (wanted_bit d fault.values v.bits))
      → IsPhaseFault k phase fault d
  phase_fault fault budget a w d store sound words live some values found printed = record {
    live = live;
    some = some;
    reads = live_within budget (length (sources_of k phase)) a d fault.at store.used sound live;
    values = values;
    least = subst (λ span. IsSpan d span × (span.len ≡ d.vars)) (sym words) (least_span (counts_of k d.vars) w d store.words, store.words.least_len);
    first = λ bits least. first_fault k phase plan ready range is model (at_bits d fault.at) (fault_spot fault) found bits least;
    printed = λ bits x g e solves assigns. printed (record { bits = bits; solution = x; assignment = g; solves = solves; assigns = assigns }) e;
  }

-- ---- faults without values

abbrev pub HasNoValues : FaultKind → Type 0
HasNoValues kind = ((kind ≡ Fight) ⊎ ((kind ≡ Float) ⊎ (kind ≡ Constraint))) ⊎ (kind ≡ FightKept)

pub printed_without : (k : Comparison) (phase : ℕ) (setting : Setting) (a : Partial) (g : Assignment) (kind : FaultKind) (at : ℕ) → HasNoValues kind
    → IsPrintedWith k phase setting a g kind at None None
printed_without k phase setting a g kind at h =
    elim h [
      | inl of ↦ elim of [
        | inl e ↦ subst (λ (x : FaultKind). IsPrintedWith k phase setting a g x at None None) (sym e) (inr (λ n w x. x, refl, refl))
        | inr other ↦ elim other [
          | inl e ↦ subst (λ (x : FaultKind). IsPrintedWith k phase setting a g x at None None) (sym e) (inr (λ n w x. x, refl, refl))
          | inr e ↦ subst (λ (x : FaultKind). IsPrintedWith k phase setting a g x at None None) (sym e) (inr (λ n w x. x, refl, refl))
        ]
      ]
      | inr e ↦ subst (λ (x : FaultKind). IsPrintedWith k phase setting a g x at None None) (sym e) (inr (λ n w x. x, refl, refl))
    ]
