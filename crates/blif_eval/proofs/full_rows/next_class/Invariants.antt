use Rattle.std.proofs.Common.{◌≡◌, ◌-◌, drop, length}
use Rattle.std.specs.List.{list_any}
use Rattle.blif_eval.specs.FullRows.{has_next}
use Rattle.blif_eval.proofs.full_rows.next_class.Given as goal

-- the answer is that for the rest
abbrev pub invariant-on : goal.invariant-on
invariant-on l = list_any (has_next l.like l.at l.byte) (drop l.place l.rows) ≡ list_any (has_next l.like l.at l.byte) l.rows

-- what is left
abbrev pub decreases-on : goal.decreases-on
decreases-on l = length l.rows - l.place
