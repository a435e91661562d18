use Rattle.std.proofs.Common.{◌≡◌, ◌||◌, ℕ, length, take}
use Rattle.phase_ports.specs.Observed.{has_whole}
use Rattle.vrt_model.specs.Lists.{mark_at}
use Rattle.phase_ports.proofs.marks.mark_wholes.Given as goal

-- the whole instances so far
abbrev pub invariant-loop-whole : goal.invariant-loop-whole
invariant-loop-whole l = record {
  len : length l.marks.items ≡ length l.fn.marks.items;
  is : (n : ℕ) → mark_at l.marks.items n ≡ (mark_at l.fn.marks.items n || has_whole (take l.whole-index l.wholes) n);
}
