-- The first fault of the places of a plan, at its least valuation, is the first finding of the phase.
use Rattle.std.proofs.Common.{ℕ, ◌<◌, Bool, List, length}
use Rattle.fault_places.proofs.SearchLaws.{case_found, first_spot}
use Rattle.fault_places.specs.Searches.{Case, IsCare, IsFoundIn, IsLeastOf, Spot, StandsIn, finding_at}
use Rattle.phase_laws.proofs.OneModel.{has_cases}
use Rattle.phase_laws.proofs.Planned.{planned_order}
use Rattle.phase_laws.specs.Models.{HasOneModel}
use Rattle.phase_terms.specs.Found.{met}
use Rattle.phase_terms.specs.Plans.{IsPhasePlan, planned_spots}
use Rattle.phase_terms.specs.Ready.{IsReady}
use Rattle.phase_terms.specs.declared.plan.PhasePlan.{PhasePlan}
use Rattle.vrt_model.specs.Comparison.{Comparison}
use Rattle.vrt_model.specs.Places.{IsFirstInPhase}

-- the valuations that meet the constraints are the care set
pub met_is_care : (k : Comparison) (phase : ℕ) → IsCare k phase (met k phase)
met_is_care k phase bits width = (λ e. record { valuation = width; constraints = e }, λ m. m.constraints)

pub first_fault : (k : Comparison) (phase : ℕ) (plan : PhasePlan) → IsReady k → phase < length k.rules.phases → IsPhasePlan k phase plan → HasOneModel k phase
    → (f : List Bool → Bool) (x : Spot)
    → IsFoundIn (StandsIn k phase) (λ (v : Case k phase). met k phase v.bits) (λ (v : Case k phase). f v.bits) (planned_spots k plan) x
    → (bits : List Bool) → IsLeastOf k phase f bits → IsFirstInPhase k (finding_at phase x bits)
first_fault k phase plan ready range is model f x found bits least =
    let order = planned_order k phase plan ready range is in
    first_spot k phase order.0 order.1 (planned_spots k plan) x bits order.2
    (case_found k phase (met k phase) f (planned_spots k plan) x bits range (met_is_care k phase) (has_cases k phase plan ready range is model) found least)
