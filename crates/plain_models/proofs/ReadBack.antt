-- Lines of words are read back: as lines, as cards, as words.
use Rattle.std.proofs.Common.{◌≡◌, ℕ, ◌+◌, ◌-◌, ◌&&◌, Bool, true, false, not, cond, List, [], ◌∷◌, ◌++◌, length, map, append_assoc, append-nil, arith, take, eqb, ap, ap₂, refl, sym, subst, ◌∙◌, flat_map}
use Rattle.std.specs.Prelude.{filter}
use Rattle.std.specs.List.{All, enumerate_from, list_all, slice_split}
use Rattle.std.specs.Str.Lines.{lines_of_parts, strip_carriage_return}
use Rattle.std.proofs.lemmas.Bool.{and_from, and_parts, eqb-true, false≢true, false_from_ne_true, not-true}
use Rattle.std.proofs.lemmas.List.Elements.{All-cons, All-nil}
use Rattle.std.proofs.lemmas.List.Splits.{slice_split_at, slice_split_none}
use Rattle.text_lines.proofs.Splits.{first_part}
use Rattle.text_lines.specs.Bytes.{is_blank, is_text, is_text_byte, kept, words_of}
use Rattle.text_lines.specs.Groups.{up_to}
use Rattle.text_lines.specs.Lines.{text_lines}
use Rattle.text_lines.specs.Words.{but_last}
use Rattle.vrt_model.specs.Lists.{is_empty}
use Rattle.vrt_model.specs.VerdictText.{spaced}
use Rattle.blif_reader.specs.Cards.{card_of, cards_of, ends_with_backslash, has_words, is_hash, joined, onto_next, uncommented}
use Rattle.blif_reader.specs.declared.cards.Card.{Card}
use Rattle.plain_models.specs.Lines.{cards_from, is_good_line, is_good_word, is_word_byte, text_of}

-- ---- tests of all items

all_of : {X : Type 0} (p : X → Bool) (Q : X → Type 0) (xs : List X) → ((x : X) → p x ≡ true → Q x) → list_all p xs ≡ true → All Q xs
all_of p Q [] f e = All-nil Q
all_of p Q (x ∷ xs) f e = (let both = and_parts (p x) (list_all p xs) e in All-cons Q x xs (f x both.0) (all_of p Q xs f both.1))

pub all_more : {X : Type 0} (p q : X → Bool) (xs : List X) → ((x : X) → p x ≡ true → q x ≡ true) → list_all p xs ≡ true → list_all q xs ≡ true
all_more p q [] f e = refl
all_more p q (x ∷ xs) f e = (let both = and_parts (p x) (list_all p xs) e in and_from (q x) (list_all q xs) (f x both.0) (all_more p q xs f both.1))

pub all_joined : {X : Type 0} (p : X → Bool) (xs ys : List X) → list_all p xs ≡ true → list_all p ys ≡ true → list_all p (xs ++ ys) ≡ true
all_joined p [] ys e f = f
all_joined p (x ∷ xs) ys e f = (let both = and_parts (p x) (list_all p xs) e in and_from (p x) (list_all p (xs ++ ys)) both.0 (all_joined p xs ys both.1 f))

-- ---- bytes

-- a byte of a line: text and no `#`
abbrev is_line_byte : ℕ → Bool
is_line_byte b = is_text_byte b && not (is_hash b)

word_line : (b : ℕ) → is_word_byte b ≡ true → is_line_byte b ≡ true
word_line b e =
    let both = and_parts (is_text_byte b && not (is_blank b)) (not (is_hash b)) e in
    and_from (is_text_byte b) (not (is_hash b)) (and_parts (is_text_byte b) (not (is_blank b)) both.0).0 both.1

word_no_blank : (b : ℕ) → is_word_byte b ≡ true → is_blank b ≡ false
word_no_blank b e =
    let both = and_parts (is_text_byte b && not (is_blank b)) (not (is_hash b)) e in not-true (is_blank b) (and_parts (is_text_byte b) (not (is_blank b)) both.0).1

line_text : (b : ℕ) → is_line_byte b ≡ true → is_text_byte b ≡ true
line_text b e = (and_parts (is_text_byte b) (not (is_hash b)) e).0

-- a byte that is text is not this one, which is none
is_other : (b c : ℕ) → is_text_byte c ≡ false → is_text_byte b ≡ true → eqb b c ≡ false
is_other b c none e = false_from_ne_true (eqb b c) (λ same. false≢true (sym none ∙ subst (λ (x : ℕ). is_text_byte x ≡ true) (eqb-true b c same) e))

-- ---- words

word_parts : (w : List ℕ) → is_good_word w ≡ true → (not (is_empty w) ≡ true) × (list_all is_word_byte w ≡ true) × (ends_with_backslash w ≡ false)
word_parts w e =
    let one = and_parts (not (is_empty w) && list_all is_word_byte w) (not (ends_with_backslash w)) e in
    let two = and_parts (not (is_empty w)) (list_all is_word_byte w) one.0 in
    (two.0, two.1, not-true (ends_with_backslash w) one.1)

kept_word : (w : List ℕ) → not (is_empty w) ≡ true → kept w ≡ w ∷ []
kept_word [] e = absurd (false≢true e)
kept_word (b ∷ bs) e = refl

-- words with one space between them are these words
words_read : (w : List ℕ) (ws : List (List ℕ)) → list_all is_good_word (w ∷ ws) ≡ true → words_of (spaced (w ∷ ws)) ≡ w ∷ ws
unfolding words_of
words_read w [] e =
    let good = word_parts w (and_parts (is_good_word w) true e).0 in
    ap (flat_map kept) (slice_split_none is_blank w (all_of is_word_byte (λ b. is_blank b ≡ false) w word_no_blank good.1)) ∙ append-nil (kept w) ∙ kept_word w good.0
words_read w (v ∷ ws) e =
    let both = and_parts (is_good_word w) (list_all is_good_word (v ∷ ws)) e in
    let good = word_parts w both.0 in
    ap (flat_map kept) (slice_split_at is_blank w 32 (spaced (v ∷ ws)) (all_of is_word_byte (λ b. is_blank b ≡ false) w word_no_blank good.1) refl)
    ∙ ap (λ (front : List (List ℕ)). front ++ words_of (spaced (v ∷ ws))) (kept_word w good.0)
    ∙ ap (λ (rest : List (List ℕ)). w ∷ rest) (words_read v ws both.1)

-- their bytes are text without `#`
bytes_good : (w : List ℕ) (ws : List (List ℕ)) → list_all is_good_word (w ∷ ws) ≡ true → list_all is_line_byte (spaced (w ∷ ws)) ≡ true
bytes_good w [] e = all_more is_word_byte is_line_byte w word_line (word_parts w (and_parts (is_good_word w) true e).0).1
bytes_good w (v ∷ ws) e =
    let both = and_parts (is_good_word w) (list_all is_good_word (v ∷ ws)) e in
    all_joined is_line_byte w (32 ∷ spaced (v ∷ ws)) (all_more is_word_byte is_line_byte w word_line (word_parts w both.0).1) (bytes_good v ws both.1)

-- what ends with more bytes ends as these do
ends_behind : (xs : List ℕ) (y : ℕ) (ys : List ℕ) → ends_with_backslash (xs ++ y ∷ ys) ≡ ends_with_backslash (y ∷ ys)
ends_behind [] y ys = refl
ends_behind (x ∷ []) y ys = refl
ends_behind (x ∷ z ∷ xs) y ys = ends_behind (z ∷ xs) y ys

ends_past : (y : ℕ) (w : List ℕ) → not (is_empty w) ≡ true → ends_with_backslash (y ∷ w) ≡ ends_with_backslash w
ends_past y [] e = absurd (false≢true e)
ends_past y (b ∷ bs) e = refl

spaced_some : (w : List ℕ) (ws : List (List ℕ)) → not (is_empty w) ≡ true → not (is_empty (spaced (w ∷ ws))) ≡ true
spaced_some w [] e = e
spaced_some [] (v ∷ ws) e = absurd (false≢true e)
spaced_some (b ∷ bs) (v ∷ ws) e = refl

ends_good : (w : List ℕ) (ws : List (List ℕ)) → list_all is_good_word (w ∷ ws) ≡ true → ends_with_backslash (spaced (w ∷ ws)) ≡ false
ends_good w [] e = (word_parts w (and_parts (is_good_word w) true e).0).2
ends_good w (v ∷ ws) e =
    let both = and_parts (is_good_word w) (list_all is_good_word (v ∷ ws)) e in
    let next = word_parts v (and_parts (is_good_word v) (list_all is_good_word ws) both.1).0 in
    ends_behind w 32 (spaced (v ∷ ws)) ∙ ends_past 32 (spaced (v ∷ ws)) (spaced_some v ws next.0) ∙ ends_good v ws both.1

-- ---- lines

more_parts : (x y : List ℕ) (more parts : List (List ℕ)) → parts ≡ y ∷ more → lines_of_parts (x ∷ parts) ≡ strip_carriage_return x ∷ lines_of_parts parts
more_parts x y more parts e = ap (λ (ps : List (List ℕ)). lines_of_parts (x ∷ ps)) e ∙ ap (λ (ps : List (List ℕ)). strip_carriage_return x ∷ lines_of_parts ps) (sym e)

no_return : (l : List ℕ) → not (is_empty l) ≡ true → list_all is_line_byte l ≡ true → strip_carriage_return l ≡ l
no_return [] some e = absurd (false≢true some)
no_return (b ∷ bs) some e =
    let texts : All (λ x. eqb x 13 ≡ false) (b ∷ bs) = all_of is_line_byte (λ x. eqb x 13 ≡ false) (b ∷ bs) (λ x t. is_other x 13 refl (line_text x t)) e in
    ap (λ (t : Bool). cond t (take (length (b ∷ bs) - 1) (b ∷ bs)) (b ∷ bs)) (texts (length (b ∷ bs) - 1) 0 (omega arith))

line_parts : (ws : List (List ℕ)) → is_good_line ws ≡ true
    → (not (is_empty (spaced ws)) ≡ true) × (list_all is_line_byte (spaced ws) ≡ true) × (ends_with_backslash (spaced ws) ≡ false) × (words_of (spaced ws) ≡ ws) × (not (is_empty ws) ≡ true)
line_parts [] e = absurd (false≢true e)
line_parts (w ∷ ws) e =
    let first = word_parts w (and_parts (is_good_word w) (list_all is_good_word ws) e).0 in
    (spaced_some w ws first.0, bytes_good w ws e, ends_good w ws e, words_read w ws e, refl)

lines_read : (wss : List (List (List ℕ))) → list_all is_good_line wss ≡ true → text_lines (text_of wss) ≡ map spaced wss
unfolding text_lines
lines_read [] e = refl
lines_read (ws ∷ wss) e =
    let both = and_parts (is_good_line ws) (list_all is_good_line wss) e in
    let good = line_parts ws both.0 in
    let rest = first_part (λ b. eqb b 10) (text_of wss) in
    let cut : slice_split (λ b. eqb b 10) (text_of (ws ∷ wss)) ≡ spaced ws ∷ slice_split (λ b. eqb b 10) (text_of wss) =
    ap (slice_split (λ b. eqb b 10)) (append_assoc (spaced ws) (10 ∷ []) (text_of wss))
    ∙ slice_split_at (λ b. eqb b 10) (spaced ws) 10 (text_of wss) (all_of is_line_byte (λ x. eqb x 10 ≡ false) (spaced ws) (λ x t. is_other x 10 refl (line_text x t)) good.1) refl in
    ap lines_of_parts cut ∙ more_parts (spaced ws) rest.0 rest.1 (slice_split (λ b. eqb b 10) (text_of wss)) rest.2
    ∙ ap₂ (λ (x : List ℕ) (xs : List (List ℕ)). x ∷ xs) (no_return (spaced ws) good.0 good.1) (lines_read wss both.1)

-- ---- cards

no_comment : (l : List ℕ) → list_all is_line_byte l ≡ true → uncommented l ≡ l
no_comment [] e = refl
no_comment (b ∷ bs) e =
    let both = and_parts (is_line_byte b) (list_all is_line_byte bs) e in
    let clean = not-true (is_hash b) (and_parts (is_text_byte b) (not (is_hash b)) both.0).1 in
    ap (λ (t : Bool). cond t [] (b ∷ up_to is_hash bs)) clean ∙ ap (λ (rest : List ℕ). b ∷ rest) (no_comment bs both.1)

all_text : (l : List ℕ) → list_all is_line_byte l ≡ true → is_text l ≡ true
unfolding is_text
all_text l e = all_more is_line_byte is_text_byte l line_text e

joined_same : (n : ℕ) (wss : List (List (List ℕ))) → list_all is_good_line wss ≡ true → joined (enumerate_from n (map spaced wss)) ≡ enumerate_from n (map spaced wss)
joined_same n [] e = refl
joined_same n (ws ∷ wss) e =
    let both = and_parts (is_good_line ws) (list_all is_good_line wss) e in
    let good = line_parts ws both.0 in
    let plain : uncommented (spaced ws) ≡ spaced ws = no_comment (spaced ws) good.1 in
    let rest = joined (enumerate_from (n + 1) (map spaced wss)) in
    ap (λ (t : Bool). cond t (onto_next (n, but_last (uncommented (spaced ws))) rest) ((n, uncommented (spaced ws)) ∷ rest)) (ap ends_with_backslash plain ∙ good.2)
    ∙ ap₂ (λ (l : List ℕ) (more : List (ℕ × List ℕ)). (n, l) ∷ more) plain (joined_same (n + 1) wss both.1)

abbrev card : ℕ → Bool → List (List ℕ) → Card
card n is_all_text words = record { line = n; is_all_text = is_all_text; words = words }

cards_same : (n : ℕ) (wss : List (List (List ℕ))) → list_all is_good_line wss ≡ true → filter has_words (map card_of (enumerate_from n (map spaced wss))) ≡ cards_from n wss
cards_same n [] e = refl
cards_same n (ws ∷ wss) e =
    let both = and_parts (is_good_line ws) (list_all is_good_line wss) e in
    let good = line_parts ws both.0 in
    let rest = filter has_words (map card_of (enumerate_from (n + 1) (map spaced wss))) in
    let same : card n (is_text (spaced ws)) (words_of (spaced ws)) ≡ card n true ws = ap₂ (λ (t : Bool) (xs : List (List ℕ)). card n t xs) (all_text (spaced ws) good.1) good.3 in
    ap (λ (c : Card). cond (has_words c) (c ∷ rest) rest) same
    ∙ ap (λ (t : Bool). cond t (card n true ws ∷ rest) rest) good.4
    ∙ ap (λ (more : List Card). card n true ws ∷ more) (cards_same (n + 1) wss both.1)

pub lines_are_read : (wss : List (List (List ℕ))) → list_all is_good_line wss ≡ true → cards_of (text_of wss) ≡ cards_from 1 wss
unfolding cards_of
lines_are_read wss e =
    ap (λ (ls : List (List ℕ)). filter has_words (map card_of (joined (enumerate_from 1 ls)))) (lines_read wss e)
    ∙ ap (λ (ls : List (ℕ × List ℕ)). filter has_words (map card_of ls)) (joined_same 1 wss e)
    ∙ cards_same 1 wss e
