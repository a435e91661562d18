use Rattle.std.proofs.Common.{◌≡◌, ◌-◌, drop, length}
use Rattle.blif_eval.specs.FullRows.{is_full}
use Rattle.blif_eval.proofs.full_rows.is_full.Given as goal

-- the answer is that for the rest
abbrev pub invariant-on : goal.invariant-on
invariant-on l = is_full (drop l.at l.row) ≡ is_full l.row

-- what is left
abbrev pub decreases-on : goal.decreases-on
decreases-on l = length l.row - l.at
