use Rattle.std.proofs.Common.{◌≡◌, ◌++◌, replicate}
use Rattle.whole_circuits.proofs.owners.add_times.Given as goal

-- the number stands so many times more
abbrev pub invariant-loop-at : goal.invariant-loop-at
invariant-loop-at l = l.numbers.items ≡ l.initial.numbers.items ++ replicate l._at l.number
