-- How many nodes a call adds, by a count of its operations on functions of the first u variables.
use Rattle.std.specs.Prelude.{◌≡◌, ℕ, ◌+◌, ◌*◌, ◌^◌, ◌<◌, ◌≤◌, List, ◌++◌, length, Result, IfErr}
use Rattle.node_pool.specs.declared.region.Node.{Node}
use Rattle.node_pool.specs.declared.region.Span.{Span}
use Rattle.bdd_core.specs.declared.handle.Spent.{Spent}
use Rattle.bdd_core.specs.Diagram.{IsWithin, TestsWithin, meaning, top}
use Rattle.bdd_core.specs.Store.{Diagrams}
use Rattle.bdd_core.specs.Words.{word_at}

-- each handle of a span reads only the first u variables
abbrev pub IsSpanWithin : ℕ → Diagrams → Span → Type 0
IsSpanWithin u d span = (k : ℕ) → k < span.len → IsWithin u (meaning d.nodes (word_at d span k))

-- nodes were only appended: at most 2 ^ u for each operation, and each of them tests one of the first u variables
pub record IsCounted (u operations : ℕ) (old new : Diagrams) : Type 0 where
  pub budget : new.budget ≡ old.budget
  pub more : List Node
  pub is : new.nodes ≡ old.nodes ++ more
  pub few : length new.nodes ≤ length old.nodes + operations * 2 ^ u
  pub early : (i : ℕ) → length old.nodes ≤ i → i < length new.nodes → top new.nodes i < u

-- the budget is used up, and is less than the nodes that were there with all that so many operations may add; where all
-- these test the first four variables, it is less than the number of functions of four variables
pub record IsSpentBy (u operations : ℕ) (old new : Diagrams) (spent : Spent) : Type 0 where
  pub number : spent.nodes ≡ old.budget
  pub full : length new.nodes ≡ old.budget
  pub passed : old.budget < length old.nodes + operations * 2 ^ u
  pub few_variables : u ≤ 4 → TestsWithin 4 old.nodes → old.budget < 65536

-- a call of at most so many operations, whether or not it was refused
pub record Counts {A : Type 0} (u operations : ℕ) (old new : Diagrams) (result : Result A Spent) : Type 0 where
  pub added : IsCounted u operations old new
  pub refused : IfErr result (IsSpentBy u operations old new)
