use Rattle.std.proofs.Common.{length}
use Rattle.phase_rows.specs.Apart.{AreApart}
use Rattle.phase_rows.proofs.checks.are_apart.Given as goal

-- where those that are left are apart, all are
abbrev pub invariant-holds : goal.invariant-holds
invariant-holds l = AreApart l.rest → AreApart l.fn.circuit.holds

abbrev pub decreases-holds : goal.decreases-holds
decreases-holds l = length l.rest
