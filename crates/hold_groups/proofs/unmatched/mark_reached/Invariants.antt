use Rattle.std.proofs.Common.{◌≡◌, ◌<◌, ◌||◌, ℕ, false, get_or, length}
use Rattle.vrt_model.specs.Unsupported.{is_reached}
use Rattle.hold_groups.proofs.unmatched.mark_reached.Given as goal

-- what is marked so far, and what the groups that are left will mark
abbrev pub invariant-groups : goal.invariant-groups
invariant-groups l = record {
  len : length l.marks.items ≡ length l.initial.marks.items;
  marked : (e : ℕ) → e < length l.initial.marks.items → (get_or l.marks.items e false || is_reached l.rest e) ≡ is_reached l.fn.groups e;
}

abbrev pub decreases-groups : goal.decreases-groups
decreases-groups l = length l.rest
