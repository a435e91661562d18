-- How long forms are when they are filled.
use Rattle.std.proofs.Common.{◌≡◌, ◌≤◌, ◌+◌, ◌*◌, ◌++◌, ◌==◌, if◌then◌else◌, [], ◌∷◌, ℕ, zero, suc, List, true, false, length, length-append, arith}
use Rattle.std.proofs.lemmas.Fmt.{length-decimal-le}
use Rattle.std.specs.Fmt.{decimal}
use Rattle.std.specs.List.{flat_map, range_with_len}
use Rattle.generator.specs.Forms.{meaning, filled}

-- a number
pub digits_short : (n : ℕ) → n ≤ 33 → length (decimal n) ≤ 2
digits_short n small = length-decimal-le 2 n (omega arith) (omega arith) (omega arith)

-- what a byte of a form stands for
meaning_short : (place byte : ℕ) → place ≤ 32 → length (meaning place byte) ≤ 2
meaning_short place byte small =
    elim (byte == 37) as (λ a. length (if a then decimal place else (if byte == 43 then decimal (place + 1) else byte ∷ [])) ≤ 2) [
      | true ↦ digits_short place (omega arith)
      | false ↦ elim (byte == 43) as (λ b. length (if b then decimal (place + 1) else byte ∷ []) ≤ 2)
          [ true ↦ digits_short (place + 1) (omega arith) | false ↦ omega arith ]
    ]

-- a form filled for a place
filled_short : (form : List ℕ) (place : ℕ) → place ≤ 32 → length (filled form place) ≤ 2 * length form
filled_short [] place small = omega arith
filled_short (byte ∷ form) place small =
    let here : length (meaning place byte) ≤ 2 = meaning_short place byte small in
    let more : length (filled form place) ≤ 2 * length form = filled_short form place small in
    let joined : length (meaning place byte ++ filled form place) ≡ length (meaning place byte) + length (filled form place)
    = length-append (meaning place byte) (filled form place) in
    omega arith

-- a form of at most 100 bytes, filled for each place
pub all_short : (form : List ℕ) → length form ≤ 100 → (from count : ℕ) → from + count ≤ 32
    → length (flat_map (filled form) (range_with_len from count)) ≤ count * 200
all_short form short from zero small = omega arith
all_short form short from (suc count) small =
    let others : List ℕ = flat_map (filled form) (range_with_len (from + 1) count) in
    let here : length (filled form from) ≤ 2 * length form = filled_short form from (omega arith) in
    let more : length others ≤ count * 200 = all_short form short (from + 1) count (omega arith) in
    let joined : length (filled form from ++ others) ≡ length (filled form from) + length others = length-append (filled form from) others in
    omega arith
