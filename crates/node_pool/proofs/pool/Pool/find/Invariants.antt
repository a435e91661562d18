use Rattle.node_pool.specs.Chains.{nodes_of}
use Rattle.node_pool.proofs.ChainLaws.{Walked}
use Rattle.node_pool.proofs.pool.Pool.find.Given as goal

abbrev pub invariant-loop-after : goal.invariant-loop-after
invariant-loop-after l = Walked l.self-inside.mask (nodes_of l.self-inside.nodes.items) l.node l.after

abbrev pub decreases-loop-after : goal.decreases-loop-after
decreases-loop-after l = l.after
