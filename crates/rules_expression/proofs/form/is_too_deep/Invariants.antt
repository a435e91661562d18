use Rattle.std.proofs.Common.{◌≡◌, ◌≤◌, length}
use Rattle.rules_expression.specs.Pieces.{line_tokens}
use Rattle.rules_expression.specs.Tokens.{nests_deeper}
use Rattle.rules_expression.proofs.form.is_too_deep.Given as goal

-- not too deep so far
abbrev pub invariant-tokens : goal.invariant-tokens
invariant-tokens l = (l.depth ≤ 64) × (nests_deeper 64 l.depth (line_tokens l.rest) ≡ nests_deeper 64 0 l.tokens)

abbrev pub decreases-tokens : goal.decreases-tokens
decreases-tokens l = length l.rest
