use Rattle.std.proofs.Common.{length}
use Rattle.phase_wishes.proofs.TableLaws.{IsPutting}
use Rattle.phase_wishes.specs.Held.{IsOfGroup}
use Rattle.vrt_model.specs.declared.groups.Group.{Group}
use Rattle.phase_wishes.proofs.tables.put_groups.Given as goal

-- what the groups that are left will put
abbrev pub invariant-groups : goal.invariant-groups
invariant-groups l = IsPutting Group (IsOfGroup l.fn.circuit l.fn.stored) l.fn.groups l.fn.table.items l.rest l.table.items

abbrev pub decreases-groups : goal.decreases-groups
decreases-groups l = length l.rest
