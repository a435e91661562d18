use Rattle.std.proofs.Common.{length}
use Rattle.phase_wishes.proofs.TableLaws.{IsPutting}
use Rattle.phase_wishes.specs.Held.{IsOfMember}
use Rattle.vrt_model.specs.declared.groups.Member.{Member}
use Rattle.phase_wishes.proofs.tables.put_members.Given as goal

-- what the members that are left will put
abbrev pub invariant-members : goal.invariant-members
invariant-members l = IsPutting Member (IsOfMember l.fn.circuit l.fn.base) l.fn.members l.fn.table.items l.rest l.table.items

abbrev pub decreases-members : goal.decreases-members
decreases-members l = length l.rest
