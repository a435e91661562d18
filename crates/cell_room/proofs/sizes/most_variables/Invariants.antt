use Rattle.std.proofs.Common.{◌≤◌}
use Rattle.cell_room.specs.Sizes.{AreWithinTo}
use Rattle.cell_room.proofs.sizes.most_variables.Given as goal

-- the greatest so far
abbrev pub invariant-loop-phase : goal.invariant-loop-phase
invariant-loop-phase l = record { few : l.most ≤ 1000; within : AreWithinTo l.fn.vars l.phase l.most }
