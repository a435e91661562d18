use Rattle.std.proofs.Common.{flat_map, length, suc}
use Rattle.net_places.specs.Globals.{IsMarking, nets_below}
use Rattle.net_tables.specs.declared.types.InstanceNets.{InstanceNets}
use Rattle.net_places.proofs.globals.+mark_below.Given as goal

abbrev pub decreases-mark_below : goal.decreases-mark_below
decreases-mark_below l = l.depth

abbrev pub decreases-instances : goal.decreases-instances
decreases-instances l = length l.left

abbrev pub invariant-instances : goal.invariant-instances
invariant-instances l =
    IsMarking (nets_below l.tables (suc l.below) l.cell) l.fn.marks.items l.marks.items (flat_map (λ (i : InstanceNets). nets_below l.tables l.below i.cell) l.left)
