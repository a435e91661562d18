-- What is always true of the fields of a pool.
use Rattle.std.specs.Prelude.{◌≡◌, ℕ, List, slice_index_or, ◌+◌, ◌<◌, ◌≤◌, ◌^◌, length}
use Rattle.std.specs.Vec.{vec_capacity}
use Rattle.node_pool.specs.declared.pool.Pool.TheInside.{Inside}
use Rattle.node_pool.specs.Region.{Region, no_node}
use Rattle.node_pool.specs.declared.region.Node.{Node}
use Rattle.node_pool.specs.Chains.{HeadsBelow, LinksRight, nodes_of, links_of}

-- no node stands at two places
abbrev pub IsOnce : List Node → Type 0
IsOnce nodes = (i j : ℕ) → i < length nodes → j < length nodes → slice_index_or nodes i no_node ≡ slice_index_or nodes j no_node → i ≡ j

pub record IsSound (p : Inside) : Type 0 where
  pub heads : HeadsBelow p.mask (nodes_of p.nodes.items) p.heads.items (length p.nodes.items)
  pub links : LinksRight p.mask (nodes_of p.nodes.items) (links_of p.nodes.items)
  pub once : IsOnce (nodes_of p.nodes.items)
  pub heads_len : length p.heads.items ≡ p.mask + 1
  pub nodes_fit : length p.nodes.items ≤ p.node_room
  pub words_fit : length p.words.items ≤ p.word_room
  pub nodes_taken : p.node_room ≤ vec_capacity p.nodes
  pub words_taken : p.word_room ≤ vec_capacity p.words
  pub heads_taken : p.most_heads ≤ vec_capacity p.heads
  pub most_heads : p.most_heads ≤ 2 ^ 31
  pub nodes_numbered : p.node_room < 2 ^ 32
  pub words_numbered : p.word_room < 2 ^ 32

abbrev pub region_of : Inside → Region
region_of p = record { nodes = nodes_of p.nodes.items; words = p.words.items; node_room = p.node_room; word_room = p.word_room }
