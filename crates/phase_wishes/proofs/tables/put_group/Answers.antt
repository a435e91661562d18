use Rattle.std.proofs.Common.{sym, ◌∙◌}
use Rattle.phase_wishes.proofs.TableLaws.{group_is}
use Rattle.phase_wishes.proofs.tables.put_group.Goals as goal

pub returns-in-Some : goal.returns-in-Some
returns-in-Some c =
    group_is c.args.circuit.now c.args.stored c.args.group.now c.in-Some.base c.as_slice.result.now c.args.table.now.items c.put_members.new.table.items
    (sym c.base_of.ensures ∙ c.in-Some.is) c.as_slice.ensures c.put_members.ensures
