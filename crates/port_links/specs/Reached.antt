-- The numbers of a graph from which chains of arcs lead to one.
use Rattle.std.specs.Prelude.{◌≡◌, ℕ, ◌↔◌, Bool, true, List}
use Rattle.graphs.specs.Graphs.{ArcIn}
use Rattle.vrt_model.specs.Lists.{mark_at}
use Rattle.vrt_model.specs.WholeInstances.{IsChain}

-- the marks are at exactly the numbers from which a chain leads to one
abbrev pub AreReaching : List (List ℕ) → ℕ → List Bool → Type 0
AreReaching sources to marks = (n : ℕ) → (mark_at marks n ≡ true) ↔ IsChain (ArcIn sources) n to
