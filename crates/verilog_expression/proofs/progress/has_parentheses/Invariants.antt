use Rattle.std.proofs.Common.{◌≡◌, length}
use Rattle.verilog_expression.specs.Kept.{closes, seen_list}
use Rattle.verilog_expression.proofs.progress.has_parentheses.Given as goal

-- only branches so far
abbrev pub invariant-opened : goal.invariant-opened
invariant-opened l = closes (seen_list l.rest) ≡ closes (seen_list l.fn.outer)

abbrev pub decreases-opened : goal.decreases-opened
decreases-opened l = length l.rest
