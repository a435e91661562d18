-- The drives of the output ports of a cell, over its checked circuit.
use Rattle.std.proofs.Common.{Bool, List, length, map}
use Rattle.cell_compare.specs.Ports.{HasDrives}
use Rattle.checked_cells.specs.Given.{IsCheckedOf}
use Rattle.drive_levels.specs.declared.table.PortLevels.{PortLevels}
use Rattle.lone_outputs.specs.Lone.{AreLoneBefore, AreOutputNets}
use Rattle.port_drives.proofs.DriveLaws.{port_drives_told}
use Rattle.port_drives.specs.Drives.{AreOwnLevels, ArePortDrives}
use Rattle.vrt_model.specs.Checked.{with_circuit}
use Rattle.vrt_model.specs.Comparison.{Comparison}
use Rattle.vrt_model.specs.declared.blif.Blif.{Blif}
use Rattle.vrt_model.specs.declared.circuit.Circuit.{Circuit}
use Rattle.vrt_model.specs.declared.ids.Net.{Net}
use Rattle.vrt_model.specs.declared.whole.CellFacts.{CellFacts}
use Rattle.vrt_model.specs.declared.whole.Drive.{Drive}

module _ (k : Comparison) (blif : Blif) (facts : List CellFacts) (lone : List Bool) (ports : PortLevels) (drives : List Drive) (nets : AreOutputNets k ports.nets)
    (alone : AreLoneBefore k (length k.rules.phases) (map (λ (n : Net). n.0) ports.nets) lone) where
  -- with the levels of the checked circuit
  pub drives_with : (c : Circuit) → IsCheckedOf k blif facts c → ArePortDrives c facts lone ports drives → AreOwnLevels (with_circuit k c) facts ports.nets ports.levels.items
      → HasDrives k blif facts drives
  drives_with c is are levels = (is.0, c, is.1, is.2, port_drives_told k (with_circuit k c) is.0 blif facts lone ports drives is.2.circuit nets alone levels are)
