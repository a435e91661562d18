use Rattle.std.proofs.Common.{◌≡◌, ◌++◌, length}
use Rattle.whole_circuits.specs.Shown.{instances_left}
use Rattle.whole_circuits.proofs.shown.shown_instances.Given as goal

-- the instances so far with those of the ones that are left
abbrev pub invariant-instances : goal.invariant-instances
invariant-instances l = l.shown ++ instances_left l.fn.marks.inside.items l.place l.rest ≡ instances_left l.fn.marks.inside.items 1 l.fn.instances

abbrev pub decreases-instances : goal.decreases-instances
decreases-instances l = length l.rest
