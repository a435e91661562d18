use Rattle.std.proofs.Common.{◌≡◌, Some, length}
use Rattle.rules_expression.specs.Kept.{seen_progress}
use Rattle.rules_expression.specs.Pieces.{line_tokens}
use Rattle.rules_expression.specs.Readings.{read_on}
use Rattle.rules_expression.proofs.expression.read_behind.Given as goal

-- what is read so far and the rest
abbrev pub invariant-tokens : goal.invariant-tokens
invariant-tokens l = read_on (Some (seen_progress l.progress)) (line_tokens l.rest) ≡ read_on (Some (seen_progress l.fn.progress)) (line_tokens l.line)

abbrev pub decreases-tokens : goal.decreases-tokens
decreases-tokens l = length l.rest
