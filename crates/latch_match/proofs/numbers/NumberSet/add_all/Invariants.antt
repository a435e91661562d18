use Rattle.std.proofs.Common.{◌≡◌, ◌||◌, ℕ, length}
use Rattle.vrt_model.specs.Lists.{has_number}
use Rattle.latch_match.specs.Marked.{has_in}
use Rattle.latch_match.proofs.numbers.NumberSet.add_all.Given as goal

-- the numbers so far, and those that are left
abbrev pub invariant-numbers : goal.invariant-numbers
invariant-numbers l = (n : ℕ) → (has_in l.self n || has_number l.rest n) ≡ (has_in l.initial.self n || has_number l.fn.numbers n)

abbrev pub decreases-numbers : goal.decreases-numbers
decreases-numbers l = length l.rest
