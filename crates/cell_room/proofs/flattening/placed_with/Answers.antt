-- The cell is unrolled by the tables of its netlist.
use Rattle.cell_room.proofs.flattening.placed_with.Goals as goal

pub unroll_cell-requires : goal.unroll_cell-requires
unroll_cell-requires c = record {
  netlist = c.requires.inputs.netlist;
  tables = c.requires.prepared.nets_are;
  there = c.requires.inputs.there;
  structured = c.requires.structured;
}
