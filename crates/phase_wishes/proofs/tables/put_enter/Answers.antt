use Rattle.std.proofs.Common.{sym, ◌∙◌}
use Rattle.phase_wishes.proofs.TableLaws.{enter_is}
use Rattle.phase_wishes.proofs.tables.put_enter.Goals as goal

pub returns-in-Some : goal.returns-in-Some
returns-in-Some c =
    enter_is c.args.circuit.now c.args.phase c.args.place c.in-Some.value c.args.table.now.items c.put_member.new.table.items (sym c.enter_of.ensures ∙ c.in-Some.is) c.put_member.ensures
