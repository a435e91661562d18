use Rattle.std.proofs.Common.{◌≡◌, ◌<◌, ◌+◌, ◌^◌, length}
use Rattle.rules_expression.specs.Pieces.{line_tokens}
use Rattle.rules_expression.specs.Tokens.{operator_count}
use Rattle.rules_expression.proofs.form.count_operators.Given as goal

-- those so far and those of the rest
abbrev pub invariant-tokens : goal.invariant-tokens
invariant-tokens l = (l.count + length l.rest < 2 ^ 63) × (l.count + operator_count (line_tokens l.rest) ≡ operator_count l.tokens)

abbrev pub decreases-tokens : goal.decreases-tokens
decreases-tokens l = length l.rest
