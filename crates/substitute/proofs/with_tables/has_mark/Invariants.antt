use Rattle.std.proofs.Common.{◌≡◌, Bool, length}
use Rattle.std.specs.List.{list_any}
use Rattle.substitute.proofs.with_tables.has_mark.Given as goal

-- what is left has a mark where all has one
abbrev pub invariant-marks : goal.invariant-marks
invariant-marks l = list_any (λ (mark : Bool). mark) l.rest ≡ list_any (λ (mark : Bool). mark) l.fn.marks

abbrev pub decreases-marks : goal.decreases-marks
decreases-marks l = length l.rest
