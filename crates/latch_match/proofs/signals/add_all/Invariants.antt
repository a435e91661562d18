use Rattle.std.proofs.Common.{◌≡◌, ◌++◌, length}
use Rattle.latch_match.proofs.signals.add_all.Given as goal

-- the numbers so far, and those that are left
abbrev pub invariant-numbers : goal.invariant-numbers
invariant-numbers l = l.list ++ l.rest ≡ l.initial.list ++ l.fn.numbers

abbrev pub decreases-numbers : goal.decreases-numbers
decreases-numbers l = length l.rest
