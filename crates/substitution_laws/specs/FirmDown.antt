-- Faults on firm ground in the circuits of a chain are on firm ground in the flat circuit.
use Rattle.std.specs.Prelude.{ℕ, ◌<◌, List, [], length}
use Rattle.firm_faults.specs.FirmGround.{IsFoundByRank, IsOnFirmGround}
use Rattle.firm_faults.specs.StepDown.{IsSamePlaceIn}
use Rattle.substitution_laws.specs.Agreement.{IsCheckedByFacts}
use Rattle.substitution_laws.specs.StepDowns.{whole_instances}
use Rattle.vrt_model.specs.Checked.{IsCircuitWith, before, with_circuit}
use Rattle.vrt_model.specs.Comparison.{Comparison}
use Rattle.vrt_model.specs.Cut.{Cut}
use Rattle.vrt_model.specs.State.{Setting}
use Rattle.vrt_model.specs.Unrolled.{all_places}
use Rattle.vrt_model.specs.declared.blif.Blif.{Blif}
use Rattle.vrt_model.specs.declared.circuit.Circuit.{Circuit}
use Rattle.vrt_model.specs.declared.verdict.FaultKind.{FaultKind}
use Rattle.vrt_model.specs.declared.whole.CellFacts.{CellFacts}

-- The law: what is on firm ground in a circuit of the chain is on firm ground in the flat one, at the same net or instance.
abbrev pub FirmGroundReachesFlat : Type 0
FirmGroundReachesFlat =
    (k : Comparison) (cut : Cut) (blif : Blif) (facts : List CellFacts) (c : Circuit) (n : ℕ) (d : Circuit) (phase : ℕ) (setting : Setting) (kind : FaultKind) (at : ℕ)
    → IsCheckedByFacts k cut blif facts c → n < length (all_places cut.top) → IsCircuitWith (before cut n) blif facts d
    → phase < length cut.top.rules.phases → IsFoundByRank kind
    → IsOnFirmGround (with_circuit k d) (whole_instances (before cut n)) phase setting kind at
    → (m : ℕ) × IsSamePlaceIn d k.circuit kind at m × IsOnFirmGround k [] phase setting kind m
