use Rattle.std.proofs.Common.{◌≡◌, ℕ, ◌<◌, true}
use Rattle.vrt_model.specs.Lists.{mark_at}
use Rattle.drive_levels.proofs.one_level.are_observed.Given as goal

-- so far each net that is asked for is observed
abbrev pub invariant-loop-at : goal.invariant-loop-at
invariant-loop-at l = (n : ℕ) → n < l.at → mark_at l.asked n ≡ true → mark_at l.observed n ≡ true
