use Rattle.std.proofs.Common.{◌≤◌, ◌-◌, length}
use Rattle.blif_eval.proofs.cover.proposed.Given as goal

-- the inputs so far
abbrev pub invariant-on : goal.invariant-on
invariant-on l = l.at ≤ length l.inputs

-- what is left
abbrev pub decreases-on : goal.decreases-on
decreases-on l = length l.inputs - l.at
