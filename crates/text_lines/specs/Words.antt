-- The words of a card, by their places.
use Rattle.std.specs.Prelude.{ℕ, List, [], ◌∷◌, unwrap_or, slice_get, drop}

-- the words behind the first
abbrev pub behind : {X : Type 0} → List X → List X
behind xs = drop 1 xs

-- the word at a place, empty where there is none
abbrev pub word_at : List (List ℕ) → ℕ → List ℕ
word_at words i = unwrap_or (slice_get words i) []

abbrev pub last_word : List (List ℕ) → List ℕ
last_word [] = []
last_word (x ∷ []) = x
last_word (x ∷ y ∷ xs) = last_word (y ∷ xs)

abbrev pub but_last : {X : Type 0} → List X → List X
but_last [] = []
but_last (x ∷ []) = []
but_last (x ∷ y ∷ xs) = x ∷ but_last (y ∷ xs)
