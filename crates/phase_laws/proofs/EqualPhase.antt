-- Where no fault stands at the places of a plan, the circuit and the model are equal in the phase.
use Rattle.std.proofs.Common.{◌≡◌, ℕ, ◌<◌, Bool, false, List, length, refl, sym, subst, ◌∙◌}
use Rattle.std.proofs.lemmas.Bool.{false≢true}
use Rattle.channel_parts.specs.OneSolution.{HasOneSolution}
use Rattle.fault_places.specs.Searches.{Case, IsClearOf, StandsIn}
use Rattle.phase_laws.proofs.Observed.{observed_nets}
use Rattle.phase_laws.proofs.Planned.{planned_order}
use Rattle.phase_laws.specs.Models.{AreDefined, HasOneModel}
use Rattle.phase_terms.specs.Found.{met}
use Rattle.phase_terms.specs.Plans.{IsPhasePlan, planned_spots}
use Rattle.phase_terms.specs.Ready.{IsReady}
use Rattle.phase_terms.specs.declared.plan.PhasePlan.{PhasePlan}
use Rattle.vrt_model.specs.Assignment.{Assignment}
use Rattle.vrt_model.specs.Comparison.{Comparison, is_observed, phase_at}
use Rattle.vrt_model.specs.Constraints.{Meets}
use Rattle.vrt_model.specs.Equal.{Agree, IsPhaseEqual, IsVacuous}
use Rattle.vrt_model.specs.Faults.{Assigns, Solves, Stands}
use Rattle.vrt_model.specs.Held.{setting_of}
use Rattle.vrt_model.specs.Reading.{Partial}
use Rattle.vrt_model.specs.declared.verdict.FaultKind.{FaultKind}

-- no valuation meets the constraints
pub vacuous_phase : (k : Comparison) (phase : ℕ) → ((bits : List Bool) → met k phase bits ≡ false) → IsVacuous k phase
vacuous_phase k phase none bits m = false≢true (sym (none bits) ∙ m.constraints)

module _ (k : Comparison) (phase : ℕ) (plan : PhasePlan) (ready : IsReady k) (range : phase < length k.rules.phases) (is : IsPhasePlan k phase plan) (model : HasOneModel k phase)
    (clear : IsClearOf (StandsIn k phase) (λ (v : Case k phase). met k phase v.bits) (planned_spots k plan)) (defined : AreDefined k phase) where
  none : (bits : List Bool) → Meets k phase bits → (a : Partial) (g : Assignment) → Solves k phase (setting_of k phase bits) a
      → Assigns k phase (setting_of k phase bits) g → (kind : FaultKind) (at : ℕ) → Stands k phase (setting_of k phase bits) a g kind at → ⊥
  none bits m a g solves assigns kind at stands =
      let order = planned_order k phase plan ready range is in
      let there = order.2.all (record { phase = phase; kind = kind; at = at; bits = bits }) (record { phase = range; meets = m; stands = (a, g, solves, assigns, stands) }) refl in
      clear there.0 there.1 (record { bits = bits; solution = a; assignment = g; solves = solves; assigns = assigns }) there.2 m.constraints
      (subst (λ (q : FaultKind). Stands k phase (setting_of k phase bits) a g q there.1.at) (sym there.3)
      (subst (λ (n : ℕ). Stands k phase (setting_of k phase bits) a g kind n) (sym there.4) stands))

  agree_at : (bits : List Bool) → Meets k phase bits → Agree k phase (setting_of k phase bits)
  agree_at bits m =
      let solved : HasOneSolution k.circuit (phase_at k.rules phase) (is_observed k phase) (setting_of k phase bits) =
      is.parts.4 (is_observed k phase) (setting_of k phase bits) (observed_nets k phase ready).0 (ready.wholes phase range).determined in
      record {
        solution = (solved.bits, solved.solves);
        one_solution = λ a b one two n seen. sym (solved.only a one n seen) ∙ solved.only b two n seen;
        assignment = model.some bits;
        one_assignment = λ g h one two. model.one bits g h one two;
        defined = λ a solves n seen. defined bits a n m.constraints solves seen;
        no_fault = λ a g solves assigns kind at. none bits m a g solves assigns kind at;
      }

-- equal in the phase
pub equal_phase : (k : Comparison) (phase : ℕ) (plan : PhasePlan) → IsReady k → phase < length k.rules.phases → IsPhasePlan k phase plan → HasOneModel k phase
    → IsClearOf (StandsIn k phase) (λ (v : Case k phase). met k phase v.bits) (planned_spots k plan) → AreDefined k phase → (bits : List Bool) × Meets k phase bits → IsPhaseEqual k phase
equal_phase k phase plan ready range is model clear defined some = record {
  met = some;
  agree = λ bits m. agree_at k phase plan ready range is model clear defined bits m;
}
