-- Sets of numbers, and how many ports pair with a signal.
use Rattle.std.specs.Prelude.{◌≡◌, ℕ, Bool, false, List, get_or, nat_lt, count_by, ◌==◌}
use Rattle.vrt_model.specs.Lists.{has_number}
use Rattle.latch_match.specs.declared.numbers.NumberSet.{NumberSet}
use Rattle.latch_match.specs.declared.counts.Counts.{Counts}

-- whether a number is in a set
abbrev pub has_in : NumberSet → ℕ → Bool
has_in set n = get_or set.marks.items n false

-- the numbers that stand in a list, and those that stand in it more than once
pub record AreCounts (numbers : List ℕ) (counts : Counts) : Type 0 where
  pub once : (n : ℕ) → has_in counts.once n ≡ has_number numbers n
  pub again : (n : ℕ) → has_in counts.again n ≡ nat_lt 1 (count_by (λ other. other == n) numbers)
