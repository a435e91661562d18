-- What is kept of the cells of a netlist.
use Rattle.std.specs.Prelude.{◌≡◌, ℕ, true, List, Option, length}
use Rattle.whole_circuits.specs.declared.whole_cell.WholeCell.{WholeCell}
use Rattle.vrt_model.specs.Lists.{At, mark_at}
use Rattle.vrt_model.specs.Unsupported.{top_before}
use Rattle.vrt_model.specs.declared.blif.Blif.{Blif}
use Rattle.vrt_model.specs.declared.design.Design.{Design}
use Rattle.vrt_model.specs.declared.rules.Rules.{Rules}
use Rattle.vrt_model.specs.declared.whole.CellFacts.{CellFacts}
use Rattle.whole_cells.specs.Entries.{IsEntry}
use Rattle.whole_cells.specs.declared.kept.KeptCells.{KeptCells}

-- there is an entry and a mark for each cell, and the entry of a cell with a mark is what its instances have in common
pub record AreKept (design : Design) (blif : Blif) (rules : Rules) (facts : List CellFacts) (kept : KeptCells) : Type 0 where
  pub each : length kept.cells.items ≡ length design.cells
  pub marks : length kept.made.items ≡ length design.cells
  pub are :
      (cell : ℕ) (entry : Option WholeCell) → At kept.cells.items cell entry → mark_at kept.made.items cell ≡ true → IsEntry (top_before design rules cell) blif facts cell entry
