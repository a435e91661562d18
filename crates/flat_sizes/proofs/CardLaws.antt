-- The nets of one card more, while a cell's own nets are counted.
use Rattle.std.proofs.Common.{◌≡◌, ◌≤◌, ◌+◌, ◌∷◌, [], ℕ, List, Bool, length, ap, sym, ◌∙◌, arith}
use Rattle.flat_sizes.proofs.LastCounts.{counts_are}
use Rattle.flat_sizes.specs.Mentions.{last_count, tied}
use Rattle.vrt_model.specs.Unrolled.{is_own, mentions, own_nets}
use Rattle.vrt_model.specs.Unsupported.{carried}
use Rattle.vrt_model.specs.declared.design.Cell.{Cell}
use Rattle.vrt_model.specs.declared.design.Design.{Design}
use Rattle.vrt_model.specs.declared.design.InstanceCard.{InstanceCard}
use Rattle.vrt_model.specs.declared.rules.Rules.{Rules}

-- the three nets of a card
pub three_more : (a b c l x y z : ℕ) → a ≡ x → b ≡ y → c ≡ z → a + b + c + l ≡ x + (y + (z + l))
three_more a b c l x y z d e f = omega (arith, d, e, f)

joined : (first second third all rest : ℕ) → carried (first + rest) ≡ carried all → second ≡ carried rest → third ≡ carried (first + second) → third ≡ carried all
joined first second third all rest e f g = omega (arith, e, f, g)

-- both parts
pub owns_are : (design : Design) (rules : Rules) (cell : Cell) (first second third : ℕ)
    → carried (first + last_count (is_own design rules cell) (tied cell.instances)) ≡ carried (last_count (is_own design rules cell) (mentions cell))
    → second ≡ carried (last_count (is_own design rules cell) (tied cell.instances)) → third ≡ carried (first + second)
    → third ≡ carried (length (own_nets design rules cell))
unfolding own_nets
owns_are design rules cell first second third e f g =
    joined first second third (last_count (is_own design rules cell) (mentions cell)) (last_count (is_own design rules cell) (tied cell.instances)) e f g
    ∙ ap carried (sym (counts_are (is_own design rules cell) (mentions cell)))

-- no card is left
pub all_counted : (test : List ℕ → Bool) (left : List InstanceCard) (count all : ℕ) → length left ≡ 0 → count ≤ 18446744073709551615
    → carried (count + last_count test (tied left)) ≡ carried all → count ≡ carried all
all_counted test [] count all none few so_far = omega (arith, few, so_far)
all_counted test (card ∷ left) count all none few so_far = absurd (omega (arith, none))
