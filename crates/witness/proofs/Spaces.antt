-- Words with spaces between them.
use Rattle.std.proofs.Common.{◌≡◌, ◌∷◌, ◌++◌, [], ℕ, List, ap, sym, ◌∙◌, append-nil, ◌≤◌, length, drop}
use Rattle.std.proofs.lemmas.List.{drop_all}
use Rattle.vrt_model.specs.VerdictText.{spaced}

-- each word with a space before it
abbrev pub spaced_behind : List (List ℕ) → List ℕ
spaced_behind [] = []
spaced_behind (word ∷ words) = (32 ∷ []) ++ (word ++ spaced_behind words)

-- the first word, and the others with a space before each
pub spaced_first : (word : List ℕ) (words : List (List ℕ)) → word ++ spaced_behind words ≡ spaced (word ∷ words)
spaced_first word [] = append-nil word
spaced_first word (next ∷ words) = ap (λ rest. word ++ 32 ∷ rest) (spaced_first next words)

-- where no word is left
pub spaced_to_end : (text first : List ℕ) (words : List (List ℕ)) (i : ℕ) → length words ≤ i
    → text ++ spaced_behind (drop i words) ≡ first ++ spaced_behind words → text ≡ spaced (first ∷ words)
spaced_to_end text first words i past e =
    sym (append-nil text) ∙ ap (λ rest. text ++ spaced_behind rest) (sym (drop_all i words past)) ∙ e ∙ spaced_first first words
