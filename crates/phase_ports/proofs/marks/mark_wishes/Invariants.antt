use Rattle.std.proofs.Common.{◌≡◌, ◌||◌, ℕ, length, take}
use Rattle.phase_ports.specs.Observed.{has_wish}
use Rattle.vrt_model.specs.Lists.{mark_at}
use Rattle.phase_ports.proofs.marks.mark_wishes.Given as goal

-- the nets of the wishes so far
abbrev pub invariant-loop-wish : goal.invariant-loop-wish
invariant-loop-wish l = record {
  len : length l.marks.items ≡ length l.fn.marks.items;
  is : (n : ℕ) → mark_at l.marks.items n ≡ (mark_at l.fn.marks.items n || has_wish (take l.wish-index l.wishes) n);
}
