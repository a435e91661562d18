-- What each finding of a phase comes with, where only fights, floats and differences of outputs can stand first.
use Rattle.std.specs.Prelude.{ℕ, Bool, List, ◌⊎◌}
use Rattle.vrt_model.proofs.FirstFinding.{found}
use Rattle.vrt_model.specs.Comparison.{Comparison}
use Rattle.vrt_model.specs.Places.{IsFinding}
use Rattle.vrt_model.specs.declared.verdict.FaultKind.{FaultKind}
use Rattle.vrt_model.specs.declared.verdict.FaultKind.TheVariants.{Fight, FightKept, Float, Unsettled, Constraint, Differs, Next, Apart, Enter}

-- what each further finding comes with: it is of an open kind; or it is a kept fight or an unsettled net, and at the
-- same net and valuation a fight or a float of the bare circuit stands
abbrev pub IsCovered : Comparison → ℕ → FaultKind → ℕ → List Bool → Type 0
IsCovered k phase Fight at bits = Unit {0}
IsCovered k phase Float at bits = Unit {0}
IsCovered k phase Differs at bits = Unit {0}
IsCovered k phase FightKept at bits = IsFinding k (found phase Fight at bits) ⊎ IsFinding k (found phase Float at bits)
IsCovered k phase Unsettled at bits = IsFinding k (found phase Fight at bits) ⊎ IsFinding k (found phase Float at bits)
IsCovered k phase Constraint at bits = ⊥
IsCovered k phase Next at bits = ⊥
IsCovered k phase Apart at bits = ⊥
IsCovered k phase Enter at bits = ⊥
