use Rattle.std.proofs.Common.{◌≡◌, ◌||◌, ℕ, length, take}
use Rattle.std.specs.List.{list_any}
use Rattle.vrt_model.specs.Lists.{mark_at}
use Rattle.witness.specs.Views.{stops}
use Rattle.witness.proofs.viewing.mark_parts.Given as goal

-- the nets of the parts so far
abbrev pub invariant-loop-part : goal.invariant-loop-part
invariant-loop-part l = record {
  len : length l.marks.items ≡ length l.fn.marks.items;
  is : (n : ℕ) → mark_at l.marks.items n ≡ (mark_at l.fn.marks.items n || list_any (stops l.circuit l.bits n) (take l.part-index l.parts));
}
