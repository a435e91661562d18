use Rattle.std.proofs.Common.{flat_map, subst, List}
use Rattle.net_places.proofs.GlobalLaws.{begun, ended, more}
use Rattle.net_places.specs.Globals.{HasMarked}
use Rattle.net_tables.specs.declared.types.CellNet.{CellNet}
use Rattle.net_tables.specs.declared.types.InstanceNets.{InstanceNets}
use Rattle.net_places.proofs.globals.mark_instances.Goals as goal
use Rattle.vrt_model.proofs.Lists.{no_items}

pub instances-init : goal.instances-init
instances-init c = begun (flat_map (λ (i : InstanceNets). i.nets) c.args.instances.now) c.args.marks.now.items

pub instances-preserved : goal.instances-preserved
instances-preserved c =
    more (flat_map (λ (i : InstanceNets). i.nets) c.args.instances.now) (λ (i : InstanceNets). i.nets) c.in-Some.instance.now c.instances.left.now c.in-Some.behind.now c.args.marks.now.items
    c.instances.marks.items c.mark_nets.new.marks.items c.in-Some.ensures.cases.0 c.instances.invariant
    (subst (λ (nets : List CellNet). HasMarked nets c.instances.marks.items c.mark_nets.new.marks.items) c.as_slice.ensures c.mark_nets.ensures)

pub returns : goal.returns
returns c = ended (flat_map (λ (i : InstanceNets). i.nets) c.args.instances.now) (λ (i : InstanceNets). i.nets) c.instances.left.now c.args.marks.now.items c.instances.marks.items (no_items _ c.in_default.ensures.cases) c.instances.invariant
