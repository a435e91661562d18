-- The words of a line up to some of its words.
use Rattle.std.proofs.Common.{◌≡◌, ◌∷◌, [], ℕ, zero, suc, List, Bool, true, false, cond, flat_map, take, refl, ap, sym, ◌∙◌}
use Rattle.std.specs.List.{onto_first, slice_split}
use Rattle.std.proofs.lemmas.List.Splits.{slice_split-cons_no, slice_split-cons_yes}
use Rattle.text_lines.specs.Bytes.{is_blank, kept, words_of}
use Rattle.text_lines.specs.Fronts.{up_to_words}

-- within a word: the same first part, and so many words behind it
record IsFront (n : ℕ) (front line : List ℕ) : Type 0 where
  first : List ℕ
  more : List (List ℕ)
  fewer : List (List ℕ)
  split : slice_split is_blank line ≡ first ∷ more
  cut : slice_split is_blank front ≡ first ∷ fewer
  words : flat_map kept fewer ≡ take n (flat_map kept more)

-- between words
abbrev HasWords : ℕ → List ℕ → List ℕ → Type 0
HasWords n front line = flat_map kept (slice_split is_blank front) ≡ take n (flat_map kept (slice_split is_blank line))

abbrev no_words : List (List ℕ)
no_words = []

take_none : (n : ℕ) → take n no_words ≡ no_words
take_none zero = refl
take_none (suc n) = refl

blank_word : (n : ℕ) (b : ℕ) (front line : List ℕ) → is_blank b ≡ true → HasWords n front line → IsFront n (b ∷ front) (b ∷ line)
blank_word n b front line e h = record {
  first = [];
  more = slice_split is_blank line;
  fewer = slice_split is_blank front;
  split = slice_split-cons_yes is_blank b line e;
  cut = slice_split-cons_yes is_blank b front e;
  words = h;
}

longer_word : (n : ℕ) (b : ℕ) (front line : List ℕ) → is_blank b ≡ false → IsFront n front line → IsFront n (b ∷ front) (b ∷ line)
longer_word n b front line e h = record {
  first = b ∷ h.first;
  more = h.more;
  fewer = h.fewer;
  split = slice_split-cons_no is_blank b line e ∙ ap (onto_first b) h.split;
  cut = slice_split-cons_no is_blank b front e ∙ ap (onto_first b) h.cut;
  words = h.words;
}

more_blanks : (n : ℕ) (b : ℕ) (front line : List ℕ) → is_blank b ≡ true → HasWords n front line → HasWords n (b ∷ front) (b ∷ line)
more_blanks n b front line e h =
    ap (flat_map kept) (slice_split-cons_yes is_blank b front e) ∙ h ∙ ap (λ parts. take n (flat_map kept parts)) (sym (slice_split-cons_yes is_blank b line e))

one_word : (n : ℕ) (b : ℕ) (front line : List ℕ) → is_blank b ≡ false → IsFront n front line → HasWords (suc n) (b ∷ front) (b ∷ line)
one_word n b front line e h =
    ap (flat_map kept) (slice_split-cons_no is_blank b front e ∙ ap (onto_first b) h.cut)
    ∙ ap (λ ws. (b ∷ h.first) ∷ ws) h.words
    ∙ ap (λ parts. take (suc n) (flat_map kept parts)) (sym (slice_split-cons_no is_blank b line e ∙ ap (onto_first b) h.split))

-- what is shown between words and within one
abbrev Fits : ℕ → List ℕ → Bool → Type 0
Fits n line true = HasWords n (up_to_words n true line) line
Fits n line false = IsFront n (up_to_words n false line) line

fits : (line : List ℕ) (n : ℕ) (between : Bool) → Fits n line between
fits [] n true = sym (take_none n)
fits [] n false = record { first = []; more = []; fewer = []; split = refl; cut = refl; words = sym (take_none n) }
fits (b ∷ bs) n false = by_test (is_blank b) refl (fits bs n (is_blank b)) where
  by_test : (t : Bool) → is_blank b ≡ t → Fits n bs t → IsFront n (b ∷ up_to_words n t bs) (b ∷ bs)
  by_test true e h = blank_word n b (up_to_words n true bs) bs e h
  by_test false e h = longer_word n b (up_to_words n false bs) bs e h
fits (b ∷ bs) zero true = by_test (is_blank b) refl (fits bs zero true) where
  by_test : (t : Bool) → is_blank b ≡ t → HasWords zero (up_to_words zero true bs) bs → HasWords zero (cond t (b ∷ up_to_words zero true bs) []) (b ∷ bs)
  by_test true e h = more_blanks zero b (up_to_words zero true bs) bs e h
  by_test false e h = refl
fits (b ∷ bs) (suc n) true = by_test (is_blank b) refl (fits bs (suc n) true) (fits bs n false) where
  by_test : (t : Bool) → is_blank b ≡ t → HasWords (suc n) (up_to_words (suc n) true bs) bs → IsFront n (up_to_words n false bs) bs
      → HasWords (suc n) (cond t (b ∷ up_to_words (suc n) true bs) (b ∷ up_to_words n false bs)) (b ∷ bs)
  by_test true e blanks word = more_blanks (suc n) b (up_to_words (suc n) true bs) bs e blanks
  by_test false e blanks word = one_word n b (up_to_words n false bs) bs e word

-- so many first words
pub words_before : (n : ℕ) (line : List ℕ) → words_of (up_to_words n true line) ≡ take n (words_of line)
unfolding words_of
words_before n line = fits line n true
