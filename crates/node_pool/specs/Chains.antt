-- Chains through the nodes, newest first.
use Rattle.std.specs.Prelude.{◌≡◌, ℕ, ◌<◌, ◌≤◌, List, map, length, slice_index, slice_index_or}
use Rattle.node_pool.specs.declared.region.Node.{Node}
use Rattle.node_pool.specs.declared.chains.Linked.{Linked}
use Rattle.node_pool.specs.Region.{newest, chain_of, no_node}

abbrev pub nodes_of : List Linked → List Node
nodes_of linked = map (λ (l : Linked). l.node) linked

abbrev pub links_of : List Linked → List ℕ
links_of linked = map (λ (l : Linked). l.older) linked

-- each head leads to the newest node of its chain that is below n
abbrev pub HeadsBelow : ℕ → List Node → List ℕ → ℕ → Type 0
HeadsBelow mask nodes heads n = (b : ℕ) → b ≤ mask → slice_index heads b ≡ newest mask nodes b n

-- each node leads to the newest one of its chain that is older
abbrev pub LinksRight : ℕ → List Node → List ℕ → Type 0
LinksRight mask nodes older = (i : ℕ) → i < length nodes → slice_index older i ≡ newest mask nodes (chain_of mask (slice_index_or nodes i no_node)) i
