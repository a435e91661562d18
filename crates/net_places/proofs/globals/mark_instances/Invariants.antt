use Rattle.std.proofs.Common.{flat_map, length}
use Rattle.net_places.specs.Globals.{IsMarking}
use Rattle.net_tables.specs.declared.types.InstanceNets.{InstanceNets}
use Rattle.net_places.proofs.globals.mark_instances.Given as goal

abbrev pub decreases-instances : goal.decreases-instances
decreases-instances l = length l.left

abbrev pub invariant-instances : goal.invariant-instances
invariant-instances l =
    IsMarking (flat_map (λ (i : InstanceNets). i.nets) l.fn.instances) l.initial.marks.items l.marks.items (flat_map (λ (i : InstanceNets). i.nets) l.left)
