use Rattle.std.proofs.Common.{◌≡◌, ℕ, ◌<◌, ◌≤◌, length}
use Rattle.drive_levels.specs.PhaseLevels.{level_in}
use Rattle.drive_levels.specs.PortLevels.{joined_level}
use Rattle.output_levels.specs.PartLevels.{level_at}
use Rattle.vrt_model.specs.Lists.{At}
use Rattle.vrt_model.specs.declared.ids.Net.{Net}
use Rattle.drive_levels.proofs.ports.join_all.Given as goal

-- the ports so far are joined, the others are as they were
abbrev pub invariant-loop-at : goal.invariant-loop-at
invariant-loop-at l = record {
  len : length l.joined.items ≡ length l.fn.joined.items;
  each : (j : ℕ) (n : Net) → j < l.at → At l.outputs j n → level_at l.joined.items j ≡ joined_level l.first (level_at l.fn.joined.items j) (level_in l.circuit l.levels n.0);
  later : (j : ℕ) → l.at ≤ j → level_at l.joined.items j ≡ level_at l.fn.joined.items j;
}
