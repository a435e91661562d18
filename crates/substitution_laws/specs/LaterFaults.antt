-- The first fault of the checked circuit, where it is found once all nets are solved, stands in the flat circuit.
use Rattle.std.specs.Prelude.{List}
use Rattle.substitution_laws.specs.Agreement.{IsCheckedByFacts}
use Rattle.vrt_model.specs.Checked.{with_circuit}
use Rattle.vrt_model.specs.CheckedVerdicts.{IsSamePlace}
use Rattle.vrt_model.specs.Comparison.{Comparison}
use Rattle.vrt_model.specs.Cut.{Cut}
use Rattle.vrt_model.specs.Places.{Finding, IsFinding, IsFirstInPhase}
use Rattle.vrt_model.specs.Verdicts.{Describes}
use Rattle.vrt_model.specs.declared.blif.Blif.{Blif}
use Rattle.vrt_model.specs.declared.circuit.Circuit.{Circuit}
use Rattle.vrt_model.specs.declared.verdict.FaultAt.{FaultAt}
use Rattle.vrt_model.specs.declared.verdict.FaultKind.{FaultKind}
use Rattle.vrt_model.specs.declared.verdict.FaultKind.TheVariants.{Fight, FightKept, Float, Unsettled, Constraint, Differs, Next, Apart, Enter}
use Rattle.vrt_model.specs.declared.whole.CellFacts.{CellFacts}

-- the kinds of faults that are found once all nets are solved
abbrev pub IsFoundLater : FaultKind → Type 0
IsFoundLater Fight = ⊥
IsFoundLater Float = ⊥
IsFoundLater Constraint = ⊥
IsFoundLater FightKept = Unit {0}
IsFoundLater Unsettled = Unit {0}
IsFoundLater Differs = Unit {0}
IsFoundLater Next = Unit {0}
IsFoundLater Apart = Unit {0}
IsFoundLater Enter = Unit {0}

-- The law: the first fault of the checked circuit, if it is one of these, is one of the flat circuit, at the same place and with the same
-- words.
abbrev pub LaterFaultsStandBelow : Type 0
LaterFaultsStandBelow =
    (k : Comparison) (cut : Cut) (blif : Blif) (facts : List CellFacts) (c : Circuit) (fault : FaultAt) (f : Finding)
    → IsCheckedByFacts k cut blif facts c → IsFoundLater f.kind
    → Describes (with_circuit k c) fault f → IsFirstInPhase (with_circuit k c) f
    → (flat : Finding) × Describes k fault flat × IsFinding k flat × IsSamePlace cut fault.kind flat.at f.at
