-- The drives of the output ports of a cell, by what is found of each.
use Rattle.std.specs.Prelude.{◌≡◌, ℕ, Bool, List, None, Option, flat_map, length, map}
use Rattle.std.specs.List.{AllZip}
use Rattle.drive_levels.specs.PhaseLevels.{IsLevelBefore}
use Rattle.drive_levels.specs.PortLevels.{drive_by}
use Rattle.drive_levels.specs.declared.table.PortLevels.{PortLevels}
use Rattle.lone_outputs.specs.Lone.{AreLoneBefore, AreOutputNets}
use Rattle.output_levels.specs.PartLevels.{level_at}
use Rattle.port_drives.specs.Outputs.{told_of, whole_drive}
use Rattle.port_drives.specs.declared.outputs.ToldOutput.{ToldOutput}
use Rattle.vrt_model.specs.Checked.{IsCircuitWith}
use Rattle.vrt_model.specs.Comparison.{Comparison}
use Rattle.vrt_model.specs.Cut.{Cut}
use Rattle.vrt_model.specs.Facts.{IsDriveOf, output_ports}
use Rattle.vrt_model.specs.Lists.{At, mark_at}
use Rattle.vrt_model.specs.WholeInstances.{all_outputs}
use Rattle.vrt_model.specs.declared.blif.Blif.{Blif}
use Rattle.vrt_model.specs.declared.circuit.Circuit.{Circuit}
use Rattle.vrt_model.specs.declared.ids.Net.{Net}
use Rattle.vrt_model.specs.declared.whole.CellFacts.{CellFacts}
use Rattle.vrt_model.specs.declared.whole.Drive.{Drive}

-- the drive of the port at a place, whose net this is
abbrev pub port_drive : Circuit → List ToldOutput → List Bool → PortLevels → ℕ → ℕ → Drive
port_drive c told lone ports at n = drive_by (mark_at lone at) (whole_drive c told n) (level_at ports.levels.items at)

-- the outputs of the whole instances of a circuit
abbrev pub told_in : List CellFacts → Circuit → List ToldOutput
told_in facts c = flat_map (told_of facts) c.wholes

-- one drive for each port
pub record ArePortDrives (c : Circuit) (facts : List CellFacts) (lone : List Bool) (ports : PortLevels) (drives : List Drive) : Type 0 where
  pub count : length drives ≡ length ports.nets
  pub each : (j : ℕ) (n : Net) → At ports.nets j n → At drives j (port_drive c (told_in facts c) lone ports j n.0)

-- at each of these nets the level that it has in all phases, where no output of a whole instance that meets gates alone is there
abbrev pub AreOwnLevels : Comparison → List CellFacts → List Net → List (Option ℕ) → Type 0
AreOwnLevels k facts nets levels =
    (j : ℕ) (n : Net) → At nets j n → whole_drive k.circuit (told_in facts k.circuit) n.0 ≡ None → IsLevelBefore k (length k.rules.phases) n.0 (level_at levels j)

-- The law: these are what the facts of the cell say, where its outputs are alone in the flat circuit by these marks, and have these
-- levels in the checked one.
abbrev pub PortDrivesAreTold : Type 0
PortDrivesAreTold =
    (flat k : Comparison) (cut : Cut) (blif : Blif) (facts : List CellFacts) (lone : List Bool) (ports : PortLevels) (drives : List Drive) → IsCircuitWith cut blif facts k.circuit
    → AreOutputNets flat ports.nets → AreLoneBefore flat (length flat.rules.phases) (map (λ (n : Net). n.0) ports.nets) lone → AreOwnLevels k facts ports.nets ports.levels.items
    → ArePortDrives k.circuit facts lone ports drives → AllZip (IsDriveOf flat k (all_outputs cut blif facts)) (output_ports flat) drives
