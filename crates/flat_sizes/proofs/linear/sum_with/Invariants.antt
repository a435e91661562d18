use Rattle.std.proofs.Common.{◌≤◌}
use Rattle.flat_sizes.proofs.StandLaws.{Summing}
use Rattle.flat_sizes.specs.Totals.{nets_weight}
use Rattle.flat_sizes.proofs.linear.sum_with.Given as goal

-- the sum so far, with that of the stands that are left
abbrev pub invariant-loop-stand : goal.invariant-loop-stand
invariant-loop-stand l = record {
  so_far : Summing (nets_weight l.design l.rules) l.stands l.sum l.stand-index;
  small : l.sum ≤ 18446744073709551615;
}
