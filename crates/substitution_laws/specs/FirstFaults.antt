-- The first fault of the checked circuit, where it is found while the nets are solved, stands in the flat circuit.
use Rattle.std.specs.Prelude.{ℕ, ◌<◌, Bool, List, length}
use Rattle.firm_faults.specs.FirmGround.{IsFoundByRank, IsOrderedAt}
use Rattle.substitution_laws.specs.Agreement.{IsCheckedByFacts}
use Rattle.substitution_laws.specs.StepDowns.{whole_instances}
use Rattle.vrt_model.specs.Checked.{IsCircuitWith, before, with_circuit}
use Rattle.vrt_model.specs.CheckedVerdicts.{IsSamePlace}
use Rattle.vrt_model.specs.Comparison.{Comparison}
use Rattle.vrt_model.specs.Cut.{Cut}
use Rattle.vrt_model.specs.Places.{Finding, IsFinding, IsFirstInPhase}
use Rattle.vrt_model.specs.State.{Setting}
use Rattle.vrt_model.specs.Verdicts.{Describes}
use Rattle.vrt_model.specs.declared.blif.Blif.{Blif}
use Rattle.vrt_model.specs.declared.circuit.Circuit.{Circuit}
use Rattle.vrt_model.specs.declared.verdict.FaultAt.{FaultAt}
use Rattle.vrt_model.specs.declared.whole.CellFacts.{CellFacts}

-- The law: in each circuit of the chain the order of faults rests on what the law of firm ground asks.
abbrev pub ChainCircuitsAreOrdered : Type 0
ChainCircuitsAreOrdered =
    (k : Comparison) (cut : Cut) (blif : Blif) (facts : List CellFacts) (c : Circuit) (n : ℕ) (d : Circuit) (phase : ℕ) (setting : Setting)
    → IsCheckedByFacts k cut blif facts c → IsCircuitWith (before cut n) blif facts d → phase < length cut.top.rules.phases
    → (known : ℕ → Bool) × IsOrderedAt (with_circuit k d) (whole_instances (before cut n)) phase setting known

-- The law: the first fault of the checked circuit, if it is a fight, a float or a broken constraint, is one of the flat circuit, at the
-- same place and with the same words.
abbrev pub FirstFaultsStandBelow : Type 0
FirstFaultsStandBelow =
    (k : Comparison) (cut : Cut) (blif : Blif) (facts : List CellFacts) (c : Circuit) (fault : FaultAt) (f : Finding)
    → IsCheckedByFacts k cut blif facts c → IsFoundByRank f.kind
    → Describes (with_circuit k c) fault f → IsFirstInPhase (with_circuit k c) f
    → (flat : Finding) × Describes k fault flat × IsFinding k flat × IsSamePlace cut fault.kind flat.at f.at
