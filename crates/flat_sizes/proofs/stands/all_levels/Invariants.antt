use Rattle.std.proofs.Common.{◌-◌}
use Rattle.flat_sizes.proofs.StandLaws.{IsStoodDown}
use Rattle.flat_sizes.proofs.stands.all_levels.Given as goal

-- what is added so far, with what stands below the level
abbrev pub invariant-loop-round : goal.invariant-loop-round
invariant-loop-round l = IsStoodDown l.design (32 - l._round) l.fn.first.items l.all.items l.level.items
