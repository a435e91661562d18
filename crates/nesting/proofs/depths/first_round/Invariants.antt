use Rattle.std.proofs.Common.{◌≡◌, List, map, take, ℕ}
use Rattle.nesting.proofs.depths.first_round.Given as goal

abbrev pub invariant-loop-numbers : goal.invariant-loop-numbers
invariant-loop-numbers l = l.depths ≡ map (λ (numbers : List ℕ). 1) (take l._numbers-index l.inner)
