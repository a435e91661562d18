use Rattle.std.proofs.Common.{◌≡◌, ◌-◌, drop, length}
use Rattle.std.specs.List.{list_all}
use Rattle.blif_eval.specs.FullRows.{is_full}
use Rattle.blif_eval.proofs.full_rows.all_full.Given as goal

-- the answer is that for the rest
abbrev pub invariant-on : goal.invariant-on
invariant-on l = list_all is_full (drop l.at l.rows) ≡ list_all is_full l.rows

-- what is left
abbrev pub decreases-on : goal.decreases-on
decreases-on l = length l.rows - l.at
