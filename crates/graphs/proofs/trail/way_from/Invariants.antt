use Rattle.std.proofs.Common.{◌<◌, List, ℕ, length}
use Rattle.graphs.specs.Trails.{IsWay, LeadOn}
use Rattle.graphs.proofs.trail.way_from.Given as goal

abbrev pub invariant-on : goal.invariant-on
invariant-on l = (l.at < length l.met) × ((sources : List (List ℕ)) → LeadOn sources l.met → IsWay sources l.met l.place l.at l.nodes)

abbrev pub decreases-on : goal.decreases-on
decreases-on l = l.at
