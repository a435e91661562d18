use Rattle.rule_index.proofs.PlaceLaws.{paired_new, placed_new, placed_there}
use Rattle.rule_index.proofs.by_cell.ByCell.add.Goals as goal

pub returns-in_ok-append_at-in-Some-clause-added : goal.returns-in_ok-append_at-in-Some-clause-added
returns-in_ok-append_at-in-Some-clause-added c other =
    placed_there c.args.self.now.names c.args.self.now.groups.items c.append_at.new.groups.items c.args.cell.now other c.in-Some.at c.args.place c.in-Some.ensures c.requires
    c.in_ok-append_at-in-Some.ensures

pub returns-in_ok-append_group-in-None-clause-paired : goal.returns-in_ok-append_group-in-None-clause-paired
returns-in_ok-append_group-in-None-clause-paired c =
    paired_new c.args.self.now.names c.number.new.self c.args.self.now.groups.items c.append_group.new.groups.items c.args.cell.now c.args.place c.in-None.ensures c.requires
    c.in_ok-number-in-None.ensures.names c.in_ok-append_group-in-None.ensures

pub returns-in_ok-append_group-in-None-clause-added : goal.returns-in_ok-append_group-in-None-clause-added
returns-in_ok-append_group-in-None-clause-added c other =
    placed_new c.args.self.now.names c.number.new.self c.args.self.now.groups.items c.append_group.new.groups.items c.args.cell.now other c.args.place c.in-None.ensures c.requires
    c.in_ok-number-in-None.ensures.names c.in_ok-append_group-in-None.ensures
