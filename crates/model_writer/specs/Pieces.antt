-- Words of lines.
use Rattle.std.specs.Prelude.{ℕ, List, [], ◌∷◌, codes, flat_map}

-- each word behind a space
abbrev pub words_behind : List (List ℕ) → List ℕ
words_behind words = flat_map (λ word. 32 ∷ word) words

-- the words of the first line
abbrev pub title : List ℕ → List (List ℕ)
title name = codes ".model" ∷ name ∷ []
