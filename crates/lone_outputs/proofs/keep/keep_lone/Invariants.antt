use Rattle.std.proofs.Common.{◌≡◌, ◌&&◌, ℕ, ◌<◌, ◌≤◌, length}
use Rattle.vrt_model.specs.Lists.{mark_at}
use Rattle.lone_outputs.proofs.keep.keep_lone.Given as goal

-- the ports so far are kept where they are alone, the others are as they were
abbrev pub invariant-loop-at : goal.invariant-loop-at
invariant-loop-at l = record {
  len : length l.all.items ≡ length l.fn.all.items;
  kept : (j : ℕ) → j < l.at → mark_at l.all.items j ≡ (mark_at l.lone j && mark_at l.fn.all.items j);
  later : (j : ℕ) → l.at ≤ j → mark_at l.all.items j ≡ mark_at l.fn.all.items j;
}
