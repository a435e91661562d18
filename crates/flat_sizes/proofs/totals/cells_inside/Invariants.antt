use Rattle.std.proofs.Common.{◌-◌}
use Rattle.flat_sizes.proofs.TotalLaws.{IsCountedDown}
use Rattle.flat_sizes.proofs.totals.cells_inside.Given as goal

-- what is counted so far, with what stands below the level
abbrev pub invariant-loop-round : goal.invariant-loop-round
invariant-loop-round l = IsCountedDown l.design l.cell (32 - l.round) l.all l.level
