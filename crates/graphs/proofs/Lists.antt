-- Places in lists of numbers.
use Rattle.std.proofs.Common.{◌≡◌, ℕ, zero, suc, ◌<◌, ◌∷◌, [], List, length, slice_index, arith, refl}

pub index_within : (xs : List ℕ) (n : ℕ) → 0 < slice_index xs n → n < length xs
index_within [] n some = let none : slice_index [] n ≡ 0 = refl in absurd (omega (arith, some, none))
index_within (x ∷ xs) zero some = omega arith
index_within (x ∷ xs) (suc n) some = let rest = index_within xs n some in omega (arith, rest)
