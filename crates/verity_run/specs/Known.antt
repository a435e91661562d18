-- What is known of the cells of a netlist while it is checked.
use Rattle.std.specs.Prelude.{◌≡◌, List, length}
use Rattle.checked_cells.specs.Given.{AreTrueFacts}
use Rattle.vrt_model.specs.declared.blif.Blif.{Blif}
use Rattle.vrt_model.specs.declared.design.Design.{Design}
use Rattle.vrt_model.specs.declared.rules.Rules.{Rules}
use Rattle.vrt_model.specs.declared.whole.CellFacts.{CellFacts}

-- an entry for each cell, which is true
pub record IsKnown (design : Design) (blif : Blif) (rules : Rules) (known : List CellFacts) : Type 0 where
  pub facts : AreTrueFacts design blif rules known
  pub each : length known ≡ length design.cells
