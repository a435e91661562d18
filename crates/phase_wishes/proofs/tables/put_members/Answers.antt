use Rattle.phase_wishes.proofs.TableLaws.{putting_step}
use Rattle.phase_wishes.specs.Held.{IsOfMember}
use Rattle.vrt_model.specs.declared.groups.Member.{Member}
use Rattle.phase_wishes.proofs.tables.put_members.Goals as goal

pub members-preserved : goal.members-preserved
members-preserved c =
    putting_step Member (IsOfMember c.args.circuit.now c.args.base) c.args.members.now c.members.rest.now c.in-Some.member.now c.in-Some.behind.now c.args.table.now.items c.members.table.items c.put_member.new.table.items
    c.in-Some.ensures.cases.0 c.members.invariant c.put_member.ensures
