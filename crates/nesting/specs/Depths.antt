-- How deep things stand in one another, by lists of the numbers of those that stand directly in each.
use Rattle.std.specs.Prelude.{◌≡◌, ℕ, suc, ◌<◌, List, [], map, length, get_or}
use Rattle.vrt_model.specs.Lists.{Among}
use Rattle.vrt_model.specs.Nesting.{depth_in, greatest}

-- those that stand directly in one, by their numbers
abbrev pub in_list : List (List ℕ) → ℕ → List ℕ
in_list inner n = get_or inner n []

-- each number is that of a list
abbrev pub AreInside : List (List ℕ) → Type 0
AreInside inner = (m n : ℕ) → Among (in_list inner m) n → n < length inner

-- these depths, as far as so many levels show
pub record AreDepths (inner : List (List ℕ)) (levels : ℕ) (depths : List ℕ) : Type 0 where
  pub count : length depths ≡ length inner
  pub each : (n : ℕ) → n < length inner → get_or depths n 0 ≡ depth_in (in_list inner) levels n

-- one more than the greatest depth of some numbers
abbrev pub depth_over : List ℕ → List ℕ → ℕ
depth_over depths numbers = suc (greatest (map (λ n. get_or depths n 0) numbers))
