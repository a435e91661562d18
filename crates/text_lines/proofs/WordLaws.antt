-- The last of some words, and those before it.
use Rattle.std.proofs.Common.{◌≡◌, ◌++◌, ◌∷◌, [], ℕ, List, refl, ap}
use Rattle.text_lines.specs.Words.{but_last, last_word}

pub but_last_end : {X : Type 0} (xs : List X) (x : X) → but_last (xs ++ x ∷ []) ≡ xs
but_last_end [] x = refl
but_last_end (y ∷ []) x = refl
but_last_end (y ∷ z ∷ xs) x = ap (λ rest. y ∷ rest) (but_last_end (z ∷ xs) x)

pub last_word_end : (xs : List (List ℕ)) (x : List ℕ) → last_word (xs ++ x ∷ []) ≡ x
last_word_end [] x = refl
last_word_end (y ∷ []) x = refl
last_word_end (y ∷ z ∷ xs) x = last_word_end (z ∷ xs) x
