use Rattle.std.proofs.Common.{◌≡◌, ◌++◌, not, length}
use Rattle.std.specs.Prelude.{filter}
use Rattle.latch_match.specs.Marked.{has_in}
use Rattle.latch_match.proofs.signals.add_others.Given as goal

-- the numbers so far, and those that are left
abbrev pub invariant-numbers : goal.invariant-numbers
invariant-numbers l = l.list ++ filter (λ n. not (has_in l.set n)) l.rest ≡ l.initial.list ++ filter (λ n. not (has_in l.set n)) l.fn.numbers

abbrev pub decreases-numbers : goal.decreases-numbers
decreases-numbers l = length l.rest
