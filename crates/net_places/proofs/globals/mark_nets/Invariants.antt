use Rattle.std.proofs.Common.{length}
use Rattle.net_places.specs.Globals.{IsMarking}
use Rattle.net_places.proofs.globals.mark_nets.Given as goal

abbrev pub decreases-nets : goal.decreases-nets
decreases-nets l = length l.left

abbrev pub invariant-nets : goal.invariant-nets
invariant-nets l = IsMarking l.fn.nets l.initial.marks.items l.marks.items l.left
