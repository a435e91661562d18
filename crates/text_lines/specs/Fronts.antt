-- A line up to some of its words.
use Rattle.std.specs.Prelude.{ℕ, zero, suc, List, [], ◌∷◌, Bool, true, false, if◌then◌else◌}
use Rattle.text_lines.specs.Bytes.{is_blank}

-- the bytes before a word more than so many begins, between words or within one
abbrev pub up_to_words : ℕ → Bool → List ℕ → List ℕ
up_to_words n between [] = []
up_to_words n false (b ∷ bs) = b ∷ up_to_words n (is_blank b) bs
up_to_words zero true (b ∷ bs) = if is_blank b then b ∷ up_to_words zero true bs else []
up_to_words (suc n) true (b ∷ bs) = if is_blank b then b ∷ up_to_words (suc n) true bs else b ∷ up_to_words n false bs
