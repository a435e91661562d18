-- Words by their places.
use Rattle.std.proofs.Common.{◌≡◌, ◌∷◌, [], ℕ, zero, suc, List, drop, length, refl, ap}
use Rattle.text_lines.specs.Words.{but_last, last_word, word_at}

-- the word at a place stands first behind those before it
pub first_behind : (n : ℕ) (ws : List (List ℕ)) → word_at (drop n ws) 0 ≡ word_at ws n
first_behind zero ws = refl
first_behind (suc n) [] = refl
first_behind (suc n) (w ∷ ws) = first_behind n ws

-- how many there are without the last
pub all_but_last : (w : List ℕ) (ws : List (List ℕ)) → length (but_last (w ∷ ws)) ≡ length ws
all_but_last w [] = refl
all_but_last w (v ∷ ws) = ap suc (all_but_last v ws)

-- an empty word before the others
pub last_behind_none : (ws : List (List ℕ)) → last_word ([] ∷ ws) ≡ last_word ws
last_behind_none [] = refl
last_behind_none (w ∷ ws) = refl
