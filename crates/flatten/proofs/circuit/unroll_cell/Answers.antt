-- There is room to unroll a cell in whose way nothing stands.
use Rattle.net_places.proofs.CallerLaws.{few_nets}
use Rattle.vrt_model.specs.Unsupported.{top_before}
use Rattle.flatten.proofs.circuit.unroll_cell.Goals as goal

pub unroll-requires : goal.unroll-requires
unroll-requires c = record {
  netlist = c.requires.netlist;
  there = c.requires.there;
  tables = c.requires.tables;
  small = few_nets (top_before c.args.design.now c.args.rules.now c.args.cell) c.requires.structured.small;
}
