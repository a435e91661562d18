use Rattle.std.proofs.Common.{◌≡◌, ◌++◌, take}
use Rattle.hierarchy.proofs.chain.append_all.Given as goal

-- the numbers so far are behind what was there
abbrev pub invariant-loop-number : goal.invariant-loop-number
invariant-loop-number l = l.list ≡ l.initial.list ++ take l.number-index l.numbers
