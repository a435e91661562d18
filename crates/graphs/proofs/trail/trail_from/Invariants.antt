use Rattle.std.proofs.Common.{◌-◌, length, suc}
use Rattle.graphs.proofs.TrailLaws.{GoesBack}
use Rattle.graphs.proofs.trail.trail_from.Given as goal

-- what was met so far, and of which numbers all that lead to them were
abbrev pub invariant-back : goal.invariant-back
invariant-back l = GoesBack l.sources l.first l.at l.places.items l.met

-- each number is met once
abbrev pub decreases-back : goal.decreases-back
decreases-back l = suc (length l.sources) - l.at
