use Rattle.std.proofs.Common.{◌≡◌}
use Rattle.rules_expression.specs.Grammar.{seen}
use Rattle.rules_expression.specs.Readings.{negated}
use Rattle.rules_expression.proofs.expression.negate.Given as goal

-- so many so far
abbrev pub invariant-loop-not : goal.invariant-loop-not
invariant-loop-not l = seen l.made ≡ negated l._not (seen l.fn.e)
