use Rattle.std.proofs.Common.{ℕ, ◌<◌, List, ◌∷◌}
use Rattle.graphs.specs.Graphs.{ArcIn}
use Rattle.vrt_model.specs.Known.{IsCycle}
use Rattle.graphs.proofs.cycle.first_cycle.Given as goal

-- no cycle begins with the numbers so far
abbrev pub invariant-loop-number : goal.invariant-loop-number
invariant-loop-number l = (m : ℕ) → m < l.number → (others : List ℕ) → ¬ IsCycle (ArcIn l.sources) (m ∷ others)
