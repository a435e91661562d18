-- How deep the instances of a cell stand where the cells of a netlist can be ordered.
use Rattle.std.specs.Prelude.{ℕ, ◌<◌, length}
use Rattle.cell_inside.specs.Shifted.{IsWithinDepth}
use Rattle.vrt_model.specs.Hierarchy.{IsOrdered}
use Rattle.vrt_model.specs.Unrolled.{Top, deepest}

-- The law: where no cell contains itself and none is too deep, the instances of each cell stand at most so deep as places are
-- unrolled.
abbrev pub OrderedIsWithinDepth : Type 0
OrderedIsWithinDepth =
    (t : Top) (cell : ℕ) → IsOrdered t.design t.rules → cell < length t.design.cells → IsWithinDepth t deepest cell
