-- Words of a line in lower case.
use Rattle.std.proofs.Common.{◌≡◌, ◌∷◌, [], ℕ, List, Bool, true, false, cond, map, flat_map, refl, ap, ap₂, ◌∙◌, arith}
use Rattle.std.specs.Char.{to_ascii_lowercase}
use Rattle.std.specs.List.{onto_first, slice_split}
use Rattle.text_lines.specs.Bytes.{is_blank, kept, lowered, words_of}

blank_kept : (b : ℕ) → is_blank (to_ascii_lowercase b) ≡ is_blank b
blank_kept b = grind arith

onto_lowered : (b : ℕ) (parts : List (List ℕ)) → onto_first (to_ascii_lowercase b) (map lowered parts) ≡ map lowered (onto_first b parts)
onto_lowered b [] = refl
onto_lowered b (x ∷ xs) = refl

parts_lowered : (line : List ℕ) → slice_split is_blank (lowered line) ≡ map lowered (slice_split is_blank line)
parts_lowered [] = refl
parts_lowered (b ∷ bs) =
    ap₂ (λ t parts. cond t ([] ∷ parts) (onto_first (to_ascii_lowercase b) parts)) (blank_kept b) (parts_lowered bs) ∙ by_test (is_blank b) where
      by_test : (t : Bool) → cond t ([] ∷ map lowered (slice_split is_blank bs)) (onto_first (to_ascii_lowercase b) (map lowered (slice_split is_blank bs)))
          ≡ map lowered (cond t ([] ∷ slice_split is_blank bs) (onto_first b (slice_split is_blank bs)))
      by_test true = refl
      by_test false = onto_lowered b (slice_split is_blank bs)

all_kept : (parts : List (List ℕ)) → flat_map kept (map lowered parts) ≡ map lowered (flat_map kept parts)
all_kept [] = refl
all_kept ([] ∷ parts) = all_kept parts
all_kept ((b ∷ bs) ∷ parts) = ap (λ ws. lowered (b ∷ bs) ∷ ws) (all_kept parts)

pub words_lowered : (line : List ℕ) → words_of (lowered line) ≡ map lowered (words_of line)
unfolding words_of
words_lowered line = ap (flat_map kept) (parts_lowered line) ∙ all_kept (slice_split is_blank line)
