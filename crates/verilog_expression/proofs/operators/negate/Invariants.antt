use Rattle.std.proofs.Common.{◌≡◌}
use Rattle.verilog_expression.specs.Grammar.{seen}
use Rattle.verilog_expression.specs.Readings.{negated}
use Rattle.verilog_expression.proofs.operators.negate.Given as goal

-- so many so far
abbrev pub invariant-loop-not : goal.invariant-loop-not
invariant-loop-not l = seen l.made ≡ negated l._not (seen l.fn.e)
