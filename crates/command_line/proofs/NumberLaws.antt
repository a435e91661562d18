-- A text that is all decimal digits is no number of a range where `parse` refuses it.
use Rattle.std.proofs.Common.{◌≡◌, ◌<◌, ◌^◌, ◌∷◌, [], ℕ, List, Bool, true, false, length, Some, None, arith, refl, sym, subst}
use Rattle.std.specs.Prelude.{◌&&◌, nat_le, if◌then◌else◌}
use Rattle.std.specs.Char.{is_ascii_digit}
use Rattle.std.specs.List.{list_all}
use Rattle.std.specs.Str.Parse.{AllDigits, IsNumeral, digits_value, without_leading_plus}
use Rattle.std.proofs.lemmas.Str.Parse.{digit_from_value, without_leading_plus_none}
use Rattle.std.proofs.lemmas.Bool.{leb-true}
use Rattle.std.proofs.lemmas.Str.{digit_value_digit}
use Rattle.clap.proofs.WalkLemmas.{both}
use Rattle.command_line.specs.Requests.{is_numeral, number_in}

each_digit : (word : List ℕ) → list_all is_ascii_digit word ≡ true → AllDigits 10 word
each_digit [] e = tt
each_digit (b ∷ bs) e =
    let k = both (is_ascii_digit b) (list_all is_ascii_digit bs) e in
    let m = both (nat_le 48 b) (nat_le b 57) k.0 in
    (omega (arith, leb-true b 57 m.1, digit_value_digit b (leb-true 48 b m.0, leb-true b 57 m.1)), each_digit bs k.1)

-- no sign stands in front
no_sign : (word : List ℕ) → AllDigits 10 word → without_leading_plus word ≡ word
no_sign [] digits = refl
no_sign (b ∷ bs) digits = without_leading_plus_none (b ∷ bs) (λ e. omega (arith, e, digit_from_value b digits.0))

chosen_none : (t : Bool) (n : ℕ) → (t ≡ true → ⊥) → (if t then Some n else None) ≡ None
chosen_none true n not_so = absurd (not_so refl)
chosen_none false n not_so = refl

pub no_number : (places least greatest : ℕ) (word : List ℕ) → greatest < 2 ^ 32 → list_all is_ascii_digit word ≡ true → 0 < length word
    → ((IsNumeral 10 (without_leading_plus word) × (digits_value 10 (without_leading_plus word) < 2 ^ 32)) → ⊥) → number_in places least greatest word ≡ None
no_number places least greatest word small digits some refused =
    chosen_none (is_numeral places word && (nat_le least (digits_value 10 word) && nat_le (digits_value 10 word) greatest)) (digits_value 10 word) fits
  where
    fits : (is_numeral places word && (nat_le least (digits_value 10 word) && nat_le (digits_value 10 word) greatest)) ≡ true → ⊥
    fits e =
        let k = both (is_numeral places word) (nat_le least (digits_value 10 word) && nat_le (digits_value 10 word) greatest) e in
        let m = both (nat_le least (digits_value 10 word)) (nat_le (digits_value 10 word) greatest) k.1 in
        let all = each_digit word digits in
        let P : List ℕ → Type 0 = λ w. IsNumeral 10 w × (digits_value 10 w < 2 ^ 32) in
        refused (subst P (sym (no_sign word all)) ((some, all), omega (arith, small, leb-true (digits_value 10 word) greatest m.1)))
