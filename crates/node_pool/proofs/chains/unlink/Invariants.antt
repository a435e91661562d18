use Rattle.std.proofs.Common.{◌-◌, ◌+◌, ◌≡◌, ◌≤◌, length, vec_capacity}
use Rattle.node_pool.specs.Chains.{HeadsBelow, nodes_of}
use Rattle.node_pool.proofs.chains.unlink.Given as goal

abbrev pub invariant-loop-count : goal.invariant-loop-count
invariant-loop-count l = record {
  above : l.to ≤ l.count;
  within : l.count ≤ length l.nodes.items;
  heads : HeadsBelow l.mask (nodes_of l.nodes.items) l.heads.items l.count;
  heads_len : length l.heads.items ≡ l.mask + 1;
  heads_capacity : vec_capacity l.heads ≡ vec_capacity l.initial.heads;
}

abbrev pub decreases-loop-count : goal.decreases-loop-count
decreases-loop-count l = l.count - l.to
