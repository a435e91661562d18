-- A region of nodes and words, and the chains through its nodes.
use Rattle.std.specs.Prelude.{ℕ, ◌+◌, ◌*◌, ◌%◌, ◌^◌, ◌≤◌, suc, zero, List, cond, eqb, length, slice_index_or, bit_and}
use Rattle.node_pool.specs.declared.region.Node.{Node}
use Rattle.node_pool.specs.declared.region.Span.{Span}
use Rattle.node_pool.specs.declared.region.Mark.{Mark}

-- what a caller sees of a pool
pub record Region : Type 0 where
  pub nodes : List Node
  pub words : List ℕ
  pub node_room : ℕ
  pub word_room : ℕ

-- a span that was taken and not left
abbrev pub IsLive : Region → Span → Type 0
IsLive region span = span.start + span.len ≤ length region.words

-- spans that have no word in common, the first before the second
abbrev pub IsApart : Span → Span → Type 0
IsApart earlier later = earlier.start + earlier.len ≤ later.start

-- a mark that is not above the region
abbrev pub IsBelow : Mark → Region → Type 0
IsBelow mark region = (mark.nodes ≤ length region.nodes) × (mark.words ≤ length region.words)

unfoldable pub no_node : Node
no_node = record { var = 0; lo = 0; hi = 0 }

-- the sum of the three numbers of a node
unfoldable pub sum_of : Node → ℕ
sum_of node = ((node.lo + node.hi) % 2 ^ 32 + node.var) % 2 ^ 32

-- the three numbers of a node, mixed
unfoldable pub mixed : Node → ℕ
mixed node = ((sum_of node * 12582917 % 2 ^ 32 + node.lo) % 2 ^ 32 + node.hi * 3 % 2 ^ 32) % 2 ^ 32

-- the chain of a node, where there are mask + 1 of them
unfoldable pub chain_of : ℕ → Node → ℕ
chain_of mask node = bit_and (mixed node) mask

-- one more than the place of the newest of the first n nodes on the chain b, and 0 where there is none
abbrev pub newest : ℕ → List Node → ℕ → ℕ → ℕ
newest mask nodes b zero = 0
newest mask nodes b (suc i) = cond (eqb (chain_of mask (slice_index_or nodes i no_node)) b) (suc i) (newest mask nodes b i)
