-- An order of a graph that follows its arcs, or its first cycle.
use Rattle.std.specs.Prelude.{◌≡◌, ℕ, ◌<◌, List, length, slice_index}
use Rattle.graphs.specs.Graphs.{ArcIn}
use Rattle.graphs.specs.declared.order.Order.{Order}
use Rattle.graphs.specs.declared.order.Order.TheVariants.{Steps, Cycle}
use Rattle.vrt_model.specs.Known.{IsCycle, IsFirstCycle}
use Rattle.vrt_model.specs.Lists.{At, Among}

-- each number below a count stands once, and no other
pub record ListsOnce (count : ℕ) (steps : List ℕ) : Type 0 where
  pub all : (n : ℕ) → n < count → Among steps n
  pub below : (n : ℕ) → Among steps n → n < count
  pub once : (i j n : ℕ) → At steps i n → At steps j n → i ≡ j

-- where an arc leads to a number, it comes from one before
abbrev pub Follows : (ℕ → ℕ → Type 0) → List ℕ → Type 0
Follows Arc steps = (from to k : ℕ) → At steps k to → Arc from to → (j : ℕ) × (j < k) × At steps j from

-- an order of all numbers that follows the arcs, which have no cycle
pub record IsOrder (sources : List (List ℕ)) (steps : List ℕ) : Type 0 where
  pub lists : ListsOnce (length sources) steps
  pub follows : Follows (ArcIn sources) steps
  pub acyclic : (nodes : List ℕ) → ¬ IsCycle (ArcIn sources) nodes

-- an order, or the first cycle
abbrev pub OrderGives : List (List ℕ) → Order → Type 0
OrderGives sources (Steps steps) = IsOrder sources steps
OrderGives sources (Cycle nodes) = IsFirstCycle (ArcIn sources) nodes

-- the numbers that have levels stand once in a list, each behind its sources
pub record IsPlacing (sources : List (List ℕ)) (levels steps : List ℕ) : Type 0 where
  pub listed : (n : ℕ) → 0 < slice_index levels n → Among steps n
  pub levelled : (n : ℕ) → Among steps n → 0 < slice_index levels n
  pub once : (i j n : ℕ) → At steps i n → At steps j n → i ≡ j
  pub follows : Follows (ArcIn sources) steps
