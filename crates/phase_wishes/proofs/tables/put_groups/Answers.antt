use Rattle.phase_wishes.proofs.TableLaws.{putting_step}
use Rattle.phase_wishes.specs.Held.{IsOfGroup}
use Rattle.vrt_model.specs.declared.groups.Group.{Group}
use Rattle.phase_wishes.proofs.tables.put_groups.Goals as goal

pub groups-preserved : goal.groups-preserved
groups-preserved c =
    putting_step Group (IsOfGroup c.args.circuit.now c.args.stored) c.args.groups.now c.groups.rest.now c.in-Some.group.now c.in-Some.behind.now c.args.table.now.items c.groups.table.items c.put_group.new.table.items
    c.in-Some.ensures.cases.0 c.groups.invariant c.put_group.ensures
