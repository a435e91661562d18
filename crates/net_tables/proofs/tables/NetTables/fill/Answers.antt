use Rattle.std.proofs.Common.{ap, ◌∙◌, map}
use Rattle.net_tables.proofs.NetLaws.{all_are}
use Rattle.net_tables.specs.Names.{nets_by}
use Rattle.net_tables.proofs.tables.NetTables.fill.Goals as goal

pub returns : goal.returns
returns c = record {
  shared_are = c.in_ok-fill.ensures;
  cells_are = c.in_ok-self.ensures ∙ ap (map (nets_by c.fill.new.self)) c.as_slice.ensures
      ∙ all_are c.args.design.now c.args.rules.now c.fill.new.self c.in_ok-fill.ensures c.requires.netlist.cells;
}
