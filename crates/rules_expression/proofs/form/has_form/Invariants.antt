use Rattle.std.proofs.Common.{◌≡◌, ◌≤◌, ◌+◌, Some, false, length}
use Rattle.rules_expression.specs.Formed.{form, forms}
use Rattle.rules_expression.specs.Pieces.{line_tokens}
use Rattle.rules_expression.proofs.form.has_form.Given as goal

-- the tokens so far and the rest
abbrev pub invariant-tokens : goal.invariant-tokens
invariant-tokens l =
    (l.form.depth + length l.rest ≤ length l.line) × (forms (Some l.form) (line_tokens l.rest) ≡ forms (Some (form false 0)) (line_tokens l.line))

abbrev pub decreases-tokens : goal.decreases-tokens
decreases-tokens l = length l.rest
