-- Parts of a list of words by how many they are.
use Rattle.std.proofs.Common.{◌≡◌, ◌-◌, ◌∷◌, [], ℕ, suc, List, Bool, true, false, cond, length, take, refl, ap, ◌∙◌, arith}
use Rattle.text_lines.specs.Words.{but_last, last_word, word_at}
use Rattle.spice_reader.specs.Netlist.{is_parameter, plain_words}

pub plain_taken : (words : List (List ℕ)) → take (length (plain_words words)) words ≡ plain_words words
plain_taken [] = refl
plain_taken (word ∷ words) = by_test (is_parameter word) (plain_taken words) where
  by_test : (t : Bool) → take (length (plain_words words)) words ≡ plain_words words
      → take (length (cond t [] (word ∷ plain_words words))) (word ∷ words) ≡ cond t [] (word ∷ plain_words words)
  by_test true rest = refl
  by_test false rest = ap (λ ws. word ∷ ws) rest

less_one : (n : ℕ) → suc (suc n) - 1 ≡ suc (suc n - 1)
less_one n = omega arith

pub all_but_last : (words : List (List ℕ)) → take (length words - 1) words ≡ but_last words
all_but_last [] = refl
all_but_last (x ∷ []) = refl
all_but_last (x ∷ y ∷ words) = ap (λ n. take n (x ∷ y ∷ words)) (less_one (length words)) ∙ ap (λ ws. x ∷ ws) (all_but_last (y ∷ words))

pub last_place : (words : List (List ℕ)) → word_at words (length words - 1) ≡ last_word words
last_place [] = refl
last_place (x ∷ []) = refl
last_place (x ∷ y ∷ words) = ap (λ n. word_at (x ∷ y ∷ words) n) (less_one (length words)) ∙ last_place (y ∷ words)
