-- The levels of output ports in the phases of an equal comparison.
use Rattle.std.specs.List.{AllZip}
use Rattle.std.specs.Prelude.{◌≡◌, ℕ, List, Option, None, Some, length}
use Rattle.drive_levels.specs.PhaseLevels.{ArePhaseLevels}
use Rattle.drive_levels.specs.PortLevels.{ArePortLevels}
use Rattle.drive_levels.specs.declared.table.NetLevels.{NetLevels}
use Rattle.drive_levels.specs.declared.table.PortLevels.{PortLevels}
use Rattle.vrt_model.specs.Checked.{IsChecked, top_of, with_circuit}
use Rattle.vrt_model.specs.Comparison.{Comparison}
use Rattle.vrt_model.specs.Cut.{Cut}
use Rattle.vrt_model.specs.Facts.{IsDriveOf, output_ports}
use Rattle.vrt_model.specs.WholeInstances.{all_outputs}
use Rattle.vrt_model.specs.declared.blif.Blif.{Blif}
use Rattle.vrt_model.specs.declared.circuit.Circuit.{Circuit}
use Rattle.vrt_model.specs.declared.ids.Net.{Net}
use Rattle.vrt_model.specs.declared.verdict.Verdict.{Verdict}
use Rattle.vrt_model.specs.declared.verdict.Verdict.TheVariants.{Equal}
use Rattle.vrt_model.specs.declared.whole.CellFacts.{CellFacts}
use Rattle.vrt_model.specs.declared.whole.Drive.{Drive}

-- a phase that is equal has these levels
abbrev pub TellsPhaseLevels : Comparison → ℕ → NetLevels → Option Verdict → Type 0
TellsPhaseLevels k phase levels None = ArePhaseLevels k phase levels
TellsPhaseLevels k phase levels (Some verdict) = Unit {0}

-- where all are equal, ports at these nets have the levels of all phases
abbrev pub TellsPorts : Comparison → List Net → PortLevels → Verdict → Type 0
TellsPorts k nets ports verdict = verdict ≡ Equal → ArePortLevels k (length k.rules.phases) nets ports.levels.items

-- these are the drives of its output ports that the facts of its cell tell, over its checked circuit
abbrev pub HasDrives : Comparison → Blif → List CellFacts → List Drive → Type 0
HasDrives k blif facts drives =
    (cut : Cut) × (c : Circuit) × (cut.top ≡ top_of k) × IsChecked cut blif facts c
    × AllZip (IsDriveOf k (with_circuit k c) (all_outputs cut blif facts)) (output_ports k) drives
