use Rattle.std.proofs.Common.{◌≡◌, ℕ, ◌+◌, ◌<◌, length, get_or, vec_capacity}
use Rattle.node_pool.specs.Region.{newest, chain_of, no_node}
use Rattle.node_pool.specs.Chains.{HeadsBelow, nodes_of, links_of}
use Rattle.node_pool.proofs.chains.relink.Given as goal

abbrev pub invariant-loop-at : goal.invariant-loop-at
invariant-loop-at l = record {
  nodes : nodes_of l.nodes.items ≡ nodes_of l.initial.nodes.items;
  heads : HeadsBelow l.mask (nodes_of l.initial.nodes.items) l.heads.items l.at;
  links : (i : ℕ) → i < l.at → get_or (links_of l.nodes.items) i 0 ≡ newest l.mask (nodes_of l.initial.nodes.items) (chain_of l.mask (get_or (nodes_of l.initial.nodes.items) i no_node)) i;
  heads_len : length l.heads.items ≡ l.mask + 1;
  len : length l.nodes.items ≡ length l.initial.nodes.items;
  heads_capacity : vec_capacity l.heads ≡ vec_capacity l.initial.heads;
  links_capacity : vec_capacity l.nodes ≡ vec_capacity l.initial.nodes;
}
