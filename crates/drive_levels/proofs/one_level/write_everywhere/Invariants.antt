use Rattle.std.proofs.Common.{◌≡◌, ℕ, ◌<◌, Some, length}
use Rattle.output_levels.specs.PartLevels.{level_at}
use Rattle.drive_levels.proofs.one_level.write_everywhere.Given as goal

-- the level stands at the places so far
abbrev pub invariant-loop-at : goal.invariant-loop-at
invariant-loop-at l = record {
  len : length l.levels.items ≡ length l.fn.levels.items;
  each : (n : ℕ) → n < l.at → level_at l.levels.items n ≡ Some l.level;
}
