use Rattle.std.proofs.Common.{◌≤◌, ◌-◌}
use Rattle.node_pool.proofs.pool.Pool.with_room.Given as goal

abbrev pub invariant-loop-chains : goal.invariant-loop-chains
invariant-loop-chains l = (1024 ≤ l.chains) × (l.chains ≤ 2147483648)

abbrev pub decreases-loop-chains : goal.decreases-loop-chains
decreases-loop-chains l = 2147483648 - l.chains
