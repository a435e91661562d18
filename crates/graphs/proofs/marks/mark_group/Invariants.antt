use Rattle.std.proofs.Common.{◌≡◌, ℕ, ◌<◌, true, slice_index}
use Rattle.graphs.specs.Groups.{is_marked}
use Rattle.graphs.proofs.marks.mark_group.Given as goal

abbrev pub invariant-loop-number : goal.invariant-loop-number
invariant-loop-number l = record {
  grown : (m : ℕ) → is_marked l.initial.marks m ≡ true → is_marked l.marks m ≡ true;
  marked : (k : ℕ) → k < l.number-index → slice_index l.groups (slice_index l.numbers k) ≡ l.group → is_marked l.marks (slice_index l.numbers k) ≡ true;
}
