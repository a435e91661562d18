use Rattle.std.proofs.Common.{◌≡◌, take}
use Rattle.hierarchy.proofs.chain.all_copied.Given as goal

-- the lists so far
abbrev pub invariant-loop-numbers : goal.invariant-loop-numbers
invariant-loop-numbers l = l.lists ≡ take l.numbers-index l.inner
