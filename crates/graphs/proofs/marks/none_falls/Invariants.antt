use Rattle.std.proofs.Common.{ℕ, ◌<◌, ◌≤◌, slice_index}
use Rattle.graphs.specs.Graphs.{ArcIn}
use Rattle.graphs.proofs.marks.none_falls.Given as goal

abbrev pub invariant-loop-to : goal.invariant-loop-to
invariant-loop-to l = (k : ℕ) → k < l.to → (n : ℕ) → ArcIn l.sources n k → slice_index l.groups n ≤ slice_index l.groups k
