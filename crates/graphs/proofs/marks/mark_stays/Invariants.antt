use Rattle.std.proofs.Common.{◌≡◌, ℕ, ◌<◌, true, slice_index}
use Rattle.graphs.specs.Graphs.{ArcIn}
use Rattle.graphs.specs.Groups.{is_marked}
use Rattle.graphs.proofs.marks.mark_stays.Given as goal

abbrev pub invariant-loop-to : goal.invariant-loop-to
invariant-loop-to l = (k : ℕ) → k < l.to → (n : ℕ) → ArcIn l.sources n k → slice_index l.groups n ≡ slice_index l.groups k → is_marked l.marks n ≡ true
