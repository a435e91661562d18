-- How many words a card has: no more than its text has bytes, and a few.
use Rattle.std.proofs.Common.{◌≡◌, ◌≤◌, ◌<◌, ◌+◌, ◌-◌, ◌++◌, ◌∷◌, ◌==◌, [], ℕ, suc, List, Bool, true, false, cond, map, flat_map, take, length, refl, ap, sym, ◌∙◌, arith}
use Rattle.std.specs.Prelude.{codes, filter, All}
use Rattle.std.specs.List.{enumerate_from, join_with_byte, onto_first, slice_index, slice_split}
use Rattle.std.specs.Str.Lines.{lines_of_parts, strip_carriage_return}
use Rattle.std.proofs.lemmas.List.{length-append, length-drop, length-map, length-take}
use Rattle.std.proofs.lemmas.List.Elements.{All-append, All-cons, All-head, All-nil, All-tail}
use Rattle.std.specs.Char.{to_ascii_lowercase}
use Rattle.text_lines.proofs.Splits.{first_part}
use Rattle.text_lines.specs.Bytes.{is_blank, is_blank_line, kept, lowered, without_blanks, words_of}
use Rattle.text_lines.specs.Groups.{groups, through, up_to}
use Rattle.text_lines.specs.Lines.{lines_of, text_lines}
use Rattle.spice_reader.specs.Cards.{begins_card, card_of, card_words, cards_in, cards_of, content_of, continued, cut_comment, has_first, is_content, joined_at_equals, orphan_of, trimmed, uncommented, unpadded}
use Rattle.spice_reader.specs.declared.card.Card.{Card}

-- a card has fewer words than this
abbrev pub Fits : Card → Type 0
Fits card = length card.words < 4294967296

-- the bytes of lists, and one more for each
abbrev weight : List (List ℕ) → ℕ
weight [] = 0
weight (x ∷ xs) = length x + 1 + weight xs

split_step : (b : Bool) (x : ℕ) (count : ℕ) (parts : List (List ℕ)) (y : List ℕ) (more : List (List ℕ)) → parts ≡ y ∷ more → weight parts ≡ count → weight (cond b ([] ∷ parts) (onto_first x parts)) ≡ count + 1
split_step true x count parts y more e h = omega (arith, h)
split_step false x count parts y more e h = let first : weight (y ∷ more) ≡ count = sym (ap weight e) ∙ h in ap (λ ps. weight (onto_first x ps)) e ∙ omega (arith, first)

split_weight : (p : ℕ → Bool) (xs : List ℕ) → weight (slice_split p xs) ≡ length xs + 1
split_weight p [] = refl
split_weight p (x ∷ xs) =
    let rest = first_part p xs in
    split_step (p x) x (length xs + 1) (slice_split p xs) rest.0 rest.1 rest.2 (split_weight p xs) ∙ omega arith

-- ---- lines

stripped : (x : List ℕ) → length (strip_carriage_return x) ≤ length x
stripped x = by_test (slice_index x (length x - 1) == 13) where
  by_test : (b : Bool) → length (cond b (take (length x - 1) x) x) ≤ length x
  by_test true = omega (arith, length-take (length x - 1) x)
  by_test false = omega arith

last_line : (b : Bool) (x : List ℕ) → weight (cond b [] (x ∷ [])) ≤ length x + 1
last_line true x = omega arith
last_line false x = omega arith

lines_weight : (parts : List (List ℕ)) → weight (lines_of_parts parts) ≤ weight parts
lines_weight [] = omega arith
lines_weight (x ∷ []) = omega (arith, last_line (length x == 0) x)
lines_weight (x ∷ y ∷ more) = omega (arith, stripped x, lines_weight (y ∷ more))

text_weight : (text : List ℕ) → weight (text_lines text) ≤ length text + 1
unfolding text_lines
text_weight text = omega (arith, lines_weight (slice_split (λ b. b == 10) text), split_weight (λ b. b == 10) text)

abbrev lines_sum : List (ℕ × List ℕ) → ℕ
lines_sum [] = 0
lines_sum (x ∷ xs) = length x.1 + 1 + lines_sum xs

numbered_sum : (n : ℕ) (xs : List (List ℕ)) → lines_sum (enumerate_from n xs) ≡ weight xs
numbered_sum n [] = refl
numbered_sum n (x ∷ xs) = ap (λ m. length x + 1 + m) (numbered_sum (n + 1) xs)

filtered_sum : (p : ℕ × List ℕ → Bool) (xs : List (ℕ × List ℕ)) → lines_sum (filter p xs) ≤ lines_sum xs
filtered_sum p [] = omega arith
filtered_sum p (x ∷ xs) = by_test (p x) (filter p xs) (filtered_sum p xs) where
  by_test : (b : Bool) (ys : List (ℕ × List ℕ)) → lines_sum ys ≤ lines_sum xs → lines_sum (cond b (x ∷ ys) ys) ≤ lines_sum (x ∷ xs)
  by_test true ys h = omega (arith, h)
  by_test false ys h = omega (arith, h)

content_sum : (text : List ℕ) → lines_sum (content_of text) ≤ length text + 1
content_sum text = omega (arith, filtered_sum is_content (lines_of text), numbered_sum 1 (text_lines text), text_weight text)

-- ---- the bytes of a card

up_to_sum : (p : ℕ × List ℕ → Bool) (xs : List (ℕ × List ℕ)) → lines_sum (up_to p xs) ≤ lines_sum xs
up_to_sum p [] = omega arith
up_to_sum p (x ∷ xs) = by_test (p x) (up_to p xs) (up_to_sum p xs) where
  by_test : (b : Bool) (ys : List (ℕ × List ℕ)) → lines_sum ys ≤ lines_sum xs → lines_sum (cond b [] (x ∷ ys)) ≤ lines_sum (x ∷ xs)
  by_test true ys h = omega arith
  by_test false ys h = omega (arith, h)

cut_shorter : (b : Bool) (xs : List ℕ) → length (cut_comment b xs) ≤ length xs
cut_shorter b [] = omega arith
cut_shorter b (x ∷ xs) = by_test _ (cut_shorter (is_blank x) xs) where
  by_test : (t : Bool) → length (cut_comment (is_blank x) xs) ≤ length xs → length (cond t [] (x ∷ cut_comment (is_blank x) xs)) ≤ length (x ∷ xs)
  by_test true h = omega arith
  by_test false h = omega (arith, h)

front_shorter : (xs : List ℕ) → length (without_blanks xs) ≤ length xs
front_shorter [] = omega arith
front_shorter (x ∷ xs) = by_test (is_blank x) (front_shorter xs) where
  by_test : (b : Bool) → length (without_blanks xs) ≤ length xs → length (cond b (without_blanks xs) (x ∷ xs)) ≤ length (x ∷ xs)
  by_test true h = omega (arith, h)
  by_test false h = omega arith

end_shorter : (xs : List ℕ) → length (unpadded xs) ≤ length xs
end_shorter [] = omega arith
end_shorter (x ∷ xs) = by_test (is_blank_line (x ∷ xs)) (end_shorter xs) where
  by_test : (b : Bool) → length (unpadded xs) ≤ length xs → length (cond b [] (x ∷ unpadded xs)) ≤ length (x ∷ xs)
  by_test true h = omega arith
  by_test false h = omega (arith, h)

-- a part from which nothing is taken
front_same : (xs : List ℕ) → length (without_blanks xs) ≡ length xs → without_blanks xs ≡ xs
front_same [] e = refl
front_same (x ∷ xs) e = by_test (is_blank x) e where
  by_test : (b : Bool) → length (cond b (without_blanks xs) (x ∷ xs)) ≡ suc (length xs) → cond b (without_blanks xs) (x ∷ xs) ≡ x ∷ xs
  by_test true h = absurd (omega (arith, h, front_shorter xs))
  by_test false h = refl

end_same : (xs : List ℕ) → length (unpadded xs) ≡ length xs → unpadded xs ≡ xs
end_same [] e = refl
end_same (x ∷ xs) e = by_test (is_blank_line (x ∷ xs)) e (end_same xs) where
  by_test : (b : Bool) → length (cond b [] (x ∷ unpadded xs)) ≡ suc (length xs) → (length (unpadded xs) ≡ length xs → unpadded xs ≡ xs) → cond b [] (x ∷ unpadded xs) ≡ x ∷ xs
  by_test true h more = absurd (omega (arith, h))
  by_test false h more = ap (λ (ys : List ℕ). x ∷ ys) (more (omega (arith, h)))

pub trimmed_same : (xs part : List ℕ) → part ≡ trimmed xs → length part ≡ length xs → trimmed xs ≡ xs
trimmed_same xs part is e =
    let size : length part ≡ length (trimmed xs) = ap (λ (ys : List ℕ). length ys) is in
    let back = end_shorter (without_blanks xs) in
    let front = front_shorter xs in
    end_same (without_blanks xs) (omega (arith, e, size, back, front)) ∙ front_same xs (omega (arith, e, size, back, front))

continued_shorter : (line : ℕ × List ℕ) → length (continued line) ≤ length line.1 + 1
continued_shorter line =
    omega (arith, length-drop 1 (without_blanks (uncommented line.1)), front_shorter (uncommented line.1), cut_shorter true line.1)

all_continued : (xs : List (ℕ × List ℕ)) → length (flat_map continued xs) ≤ lines_sum xs
all_continued [] = omega arith
all_continued (x ∷ xs) = omega (arith, length-append (continued x) (flat_map continued xs), continued_shorter x, all_continued xs)

-- ---- the words of bytes

trimmed_weight : (parts : List (List ℕ)) → weight (map trimmed parts) ≤ weight parts
trimmed_weight [] = omega arith
trimmed_weight (x ∷ xs) = omega (arith, end_shorter (without_blanks x), front_shorter x, trimmed_weight xs)

joined_weight : (parts : List (List ℕ)) → length (join_with_byte 61 parts) ≤ weight parts
joined_weight [] = omega arith
joined_weight (x ∷ []) = omega arith
joined_weight (x ∷ y ∷ more) = omega (arith, length-append x (61 ∷ join_with_byte 61 (y ∷ more)), joined_weight (y ∷ more))

joined_shorter : (xs : List ℕ) → length (joined_at_equals xs) ≤ length xs + 1
unfolding joined_at_equals
joined_shorter xs =
    let parts = slice_split (λ b. b == 61) xs in
    omega (arith, joined_weight (map trimmed parts), trimmed_weight parts, split_weight (λ b. b == 61) xs)

kept_count : (parts : List (List ℕ)) → length (flat_map kept parts) ≤ weight parts
kept_count [] = omega arith
kept_count ([] ∷ parts) = omega (arith, kept_count parts)
kept_count ((x ∷ xs) ∷ parts) = omega (arith, kept_count parts)

words_count : (xs : List ℕ) → length (words_of xs) ≤ length xs + 1
unfolding words_of
words_count xs = omega (arith, kept_count (slice_split is_blank xs), split_weight is_blank xs)

card_words_count : (bytes : List ℕ) → length (card_words bytes) ≤ length bytes + 2
unfolding card_words
card_words_count bytes =
    omega (arith, words_count (joined_at_equals (lowered bytes)), joined_shorter (lowered bytes), length-map bytes to_ascii_lowercase)

-- ---- the cards of a text

card_fits : (group : (ℕ × List ℕ) × List (ℕ × List ℕ)) → lines_sum (group.0 ∷ group.1) ≤ 16777217 → Fits (card_of group)
card_fits group most =
    let bytes = uncommented group.0.1 ++ flat_map continued group.1 in
    omega (
      arith,
      card_words_count bytes,
      length-append (uncommented group.0.1) (flat_map continued group.1),
      cut_shorter true group.0.1,
      all_continued group.1,
      most,
    )

groups_fit : (xs : List (ℕ × List ℕ)) → lines_sum xs ≤ 16777217 → All Fits (map card_of (groups begins_card begins_card xs))
groups_fit [] most = All-nil Fits
groups_fit (x ∷ xs) most =
    by_test (begins_card x) (groups begins_card begins_card xs) (groups_fit xs (omega (arith, most))) where
      by_test : (b : Bool) (gs : List ((ℕ × List ℕ) × List (ℕ × List ℕ))) → All Fits (map card_of gs) → All Fits (map card_of (cond b ((x, up_to begins_card xs) ∷ gs) gs))
      by_test true gs h = All-cons Fits (card_of (x, up_to begins_card xs)) (map card_of gs) (card_fits (x, up_to begins_card xs) (omega (arith, up_to_sum begins_card xs, most))) h
      by_test false gs h = h

orphans_fit : (xs : List (ℕ × List ℕ)) → All Fits (map orphan_of xs)
orphans_fit [] = All-nil Fits
orphans_fit (x ∷ xs) = All-cons Fits (orphan_of x) (map orphan_of xs) (omega arith) (orphans_fit xs)

through_fit : (ends : Card → Bool) (cards : List Card) → All Fits cards → All Fits (through ends cards)
through_fit ends [] h = All-nil Fits
through_fit ends (c ∷ cs) h = All-cons Fits c _ (All-head Fits c cs h) (by_test (ends c) (through_fit ends cs (All-tail Fits c cs h))) where
  by_test : (b : Bool) → All Fits (through ends cs) → All Fits (cond b [] (through ends cs))
  by_test true h = All-nil Fits
  by_test false h = h

-- the cards of a text within the limit
pub cards_fit : (text : List ℕ) → length text ≤ 16777216 → All Fits (cards_of text)
unfolding cards_of
cards_fit text most =
    let content = content_of text in
    through_fit (has_first (codes ".end")) (cards_in content)
    (All-append Fits (map orphan_of (up_to begins_card content)) (map card_of (groups begins_card begins_card content)) (orphans_fit (up_to begins_card content))
    (groups_fit content (omega (arith, content_sum text, most))))
