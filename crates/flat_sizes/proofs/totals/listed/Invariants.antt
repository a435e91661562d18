use Rattle.std.proofs.Common.{◌≡◌, length}
use Rattle.flat_sizes.proofs.TotalLaws.{Listing}
use Rattle.flat_sizes.proofs.totals.listed.Given as goal

-- the stands so far, with the counts that are left
abbrev pub invariant-loop-cell : goal.invariant-loop-cell
invariant-loop-cell l = record {
  so_far : Listing l.table l.stands l.cell;
  size : length l.stands ≡ 4096;
}
