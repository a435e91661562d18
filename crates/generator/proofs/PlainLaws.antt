-- What is filled with digits is plain.
use Rattle.std.proofs.Common.{◌≡◌, ◌≤◌, ◌<◌, ◌+◌, ◌^◌, ◌%◌, ◌++◌, ◌==◌, ◌&&◌, ◌||◌, if◌then◌else◌, [], ◌∷◌, ℕ, zero, suc, List, Bool, true, false, refl, ap₂, ◌∙◌, arith}
use Rattle.std.proofs.Math.Bool.{or-true}
use Rattle.std.proofs.lemmas.Bool.{and_from, le-leb}
use Rattle.std.proofs.lemmas.Fmt.{decimal_by_steps}
use Rattle.std.proofs.lemmas.List.Folds.{list_all-append}
use Rattle.std.specs.Fmt.{decimal}
use Rattle.std.specs.List.{list_all, flat_map, range_with_len}
use Rattle.generator.specs.Forms.{meaning, filled}
use Rattle.generator.specs.Texts.{is_plain}

first_of_both : (a b : Bool) → (a && b) ≡ true → a ≡ true
first_of_both true b e = refl
first_of_both false b e = e

second_of_both : (a b : Bool) → (a && b) ≡ true → b ≡ true
second_of_both true b e = e
second_of_both false b e = cc

-- two texts
pub joined_plain : (xs ys : List ℕ) → list_all is_plain xs ≡ true → list_all is_plain ys ≡ true → list_all is_plain (xs ++ ys) ≡ true
joined_plain xs ys p q = list_all-append is_plain xs ys ∙ and_from (list_all is_plain xs) (list_all is_plain ys) p q

-- a byte
one_plain : (byte : ℕ) → is_plain byte ≡ true → list_all is_plain (byte ∷ []) ≡ true
one_plain byte plain = and_from (is_plain byte) true plain refl

-- a digit
digit_plain : (d : ℕ) → d < 10 → is_plain (48 + d) ≡ true
digit_plain d small =
    ap₂ (λ (a b : Bool). ((48 + d) == 10) || (a && b)) (le-leb 32 (48 + d) (omega arith)) (le-leb (48 + d) 126 (omega arith)) ∙ or-true ((48 + d) == 10)

-- a number
pub digits_plain : (n : ℕ) → n < 2 ^ 64 → list_all is_plain (decimal n) ≡ true
digits_plain n small =
    decimal_by_steps (λ n ds. list_all is_plain ds ≡ true)
    (λ n small. one_plain (48 + n) (digit_plain n small))
    (λ n ds large plain. joined_plain ds ((48 + n % 10) ∷ []) plain (one_plain (48 + n % 10) (digit_plain (n % 10) (omega arith))))
    n small

-- what a byte of a form stands for
meaning_plain : (place byte : ℕ) → place ≤ 32 → is_plain byte ≡ true → list_all is_plain (meaning place byte) ≡ true
meaning_plain place byte small plain =
    elim (byte == 37) as (λ a. list_all is_plain (if a then decimal place else (if byte == 43 then decimal (place + 1) else byte ∷ [])) ≡ true) [
      | true ↦ digits_plain place (omega arith)
      | false ↦ elim (byte == 43) as (λ b. list_all is_plain (if b then decimal (place + 1) else byte ∷ []) ≡ true)
          [ true ↦ digits_plain (place + 1) (omega arith) | false ↦ one_plain byte plain ]
    ]

-- a form filled for a place
filled_plain : (form : List ℕ) (place : ℕ) → place ≤ 32 → list_all is_plain form ≡ true → list_all is_plain (filled form place) ≡ true
filled_plain [] place small plain = refl
filled_plain (byte ∷ form) place small plain =
    joined_plain (meaning place byte) (filled form place)
    (meaning_plain place byte small (first_of_both (is_plain byte) (list_all is_plain form) plain))
    (filled_plain form place small (second_of_both (is_plain byte) (list_all is_plain form) plain))

-- a form filled for each place
pub all_plain : (form : List ℕ) → list_all is_plain form ≡ true → (from count : ℕ) → from + count ≤ 32
    → list_all is_plain (flat_map (filled form) (range_with_len from count)) ≡ true
all_plain form plain from zero small = refl
all_plain form plain from (suc count) small =
    joined_plain (filled form from) (flat_map (filled form) (range_with_len (from + 1) count))
    (filled_plain form from (omega arith) plain) (all_plain form plain (from + 1) count (omega arith))
