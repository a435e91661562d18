-- A list of nodes that grows, with the numbers of the store's places.
use Rattle.std.specs.Prelude.{◌≡◌, ℕ, ◌+◌, ◌^◌, ◌<◌, ◌≤◌, ◌≢◌, [], ◌∷◌, ◌++◌, length, map, slice_set}
use Rattle.bdd_core.specs.Store.{Diagrams}
use Rattle.bdd_core.specs.declared.handle.H.{H}
use Rattle.diagram_lists.specs.Listed.{function_from, node_of, number_at}
use Rattle.diagram_lists.specs.declared.list.NodeList.{NodeList}
use Rattle.vrt_model.specs.Lists.{At}
use Rattle.written_models.specs.Functions.{with_nodes}

-- of so many places the constants have 0 and 1, each node of the list has its number, and no other place has one
pub record IsNumbered (count : ℕ) (list : NodeList) : Type 0 where
  pub places : length list.numbers.items ≡ count
  pub some : 2 ≤ count
  pub few : count < 2 ^ 32
  pub nought : number_at list 0 ≡ 0
  pub one : number_at list 1 ≡ 1
  pub listed : (i : ℕ) (h : H) → At list.nodes.items i h → (2 ≤ h.0) × (h.0 < count) × (number_at list h.0 ≡ 2 + i)
  pub others : (k : ℕ) → 2 ≤ k → number_at list k ≢ 0 → (i : ℕ) × (h : H) × At list.nodes.items i h × (h.0 ≡ k)

-- a handle was added, with the next number
pub record HasAdded (f : H) (old new : NodeList) : Type 0 where
  pub nodes : new.nodes.items ≡ old.nodes.items ++ f ∷ []
  pub numbers : new.numbers.items ≡ slice_set old.numbers.items f.0 (2 + length old.nodes.items)

-- the nodes below a handle were added, none of them above it
pub record HasListed (d : Diagrams) (f : H) (old new : NodeList) : Type 0 where
  pub numbered : IsNumbered (length d.nodes) new
  pub nodes : map (node_of d) new.nodes.items ≡ with_nodes d.vars 0 (function_from d 0 f) (map (node_of d) old.nodes.items)
  pub above : (k : ℕ) → f.0 < k → number_at new k ≡ number_at old k
