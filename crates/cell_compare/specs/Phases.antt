-- What is found phase by phase, and what is told of a cell then.
use Rattle.std.specs.Prelude.{◌≡◌, ℕ, ◌<◌, ◌↔◌, Bool, true, false, List, [], length, Option, Some, None}
use Rattle.phase_laws.specs.Sums.{phase_operations}
use Rattle.phase_terms.specs.Found.{MaySpend}
use Rattle.phase_terms.specs.Plans.{IsPhasePlan}
use Rattle.phase_terms.specs.declared.plan.PhasePlan.{PhasePlan}
use Rattle.vrt_model.specs.Comparison.{Comparison}
use Rattle.vrt_model.specs.Equal.{IsEqual, IsPhaseEqual, IsVacuous}
use Rattle.vrt_model.specs.Places.{Finding, IsFirst, IsFirstInPhase}
use Rattle.vrt_model.specs.Verdicts.{Describes, EqualBefore}
use Rattle.vrt_model.specs.declared.verdict.Verdict.{Verdict}
use Rattle.vrt_model.specs.declared.verdict.Verdict.TheVariants.{Equal, Skipped, Fault, Vacuous, Budget, Unsupported}
use Rattle.vrt_model.specs.declared.whole.CellFacts.{CellFacts}
use Rattle.vrt_model.specs.declared.whole.Drive.{Drive}

-- a phase may use up the budget: by all operations of its plan
abbrev pub MayUseUp : Comparison → ℕ → ℕ → Type 0
MayUseUp k budget phase = (plan : PhasePlan) × IsPhasePlan k phase plan × MaySpend k budget phase (phase_operations k phase plan)

-- a phase stops the search: at its first fault; as no valuation meets its constraints; or the budget is used up
abbrev pub IsStop : Comparison → ℕ → ℕ → Verdict → Type 0
IsStop k budget phase (Fault fault) = (fault.phase ≡ phase) × ((f : Finding) × Describes k fault f × IsFirstInPhase k f)
IsStop k budget phase (Vacuous p) = (p ≡ phase) × IsVacuous k phase
IsStop k budget phase (Budget nodes p) = (p ≡ phase) × (nodes ≡ budget) × MayUseUp k budget phase
IsStop k budget phase Equal = ⊥
IsStop k budget phase Skipped = ⊥
IsStop k budget phase (Unsupported why) = ⊥

-- or it is equal
abbrev pub PhaseTells : Comparison → ℕ → ℕ → Option Verdict → Type 0
PhaseTells k budget phase None = IsPhaseEqual k phase
PhaseTells k budget phase (Some verdict) = IsStop k budget phase verdict

-- ---- the verdict

-- what is found phase by phase: each phase before the one that is told is equal
abbrev pub IsChecked : Comparison → ℕ → Verdict → Type 0
IsChecked k budget Equal = IsEqual k
IsChecked k budget (Fault fault) = EqualBefore k fault.phase × ((f : Finding) × Describes k fault f × IsFirst k f)
IsChecked k budget (Vacuous phase) = (phase < length k.rules.phases) × IsVacuous k phase × EqualBefore k phase
IsChecked k budget (Budget nodes phase) = (phase < length k.rules.phases) × (nodes ≡ budget) × MayUseUp k budget phase × EqualBefore k phase
IsChecked k budget Skipped = ⊥
IsChecked k budget (Unsupported why) = ⊥

-- ---- what is known of the cell then

-- an equal cell has these drives, another one none; it is stateless where there is neither hold nor latch
pub record AreTold (drives : List Drive) (bare : Bool) (verdict : Verdict) (facts : CellFacts) : Type 0 where
  pub equal : (facts.equal ≡ true) ↔ (verdict ≡ Equal)
  pub stateless : (facts.stateless ≡ true) ↔ ((verdict ≡ Equal) × (bare ≡ true))
  pub drives_are : facts.equal ≡ true → facts.drives ≡ drives
  pub no_drives : facts.equal ≡ false → facts.drives ≡ []
