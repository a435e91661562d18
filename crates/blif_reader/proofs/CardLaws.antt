-- A line before others, with and without lines that are to be joined with it.
use Rattle.std.proofs.Common.{◌≡◌, ◌+◌, ◌==◌, ◌++◌, ◌∷◌, [], ℕ, List, Bool, true, false, cond, map, Option, Some, None, refl, ap, sym, ◌∙◌, append_assoc}
use Rattle.std.specs.Prelude.{filter, option_to_list}
use Rattle.std.specs.List.{enumerate_from}
use Rattle.text_lines.specs.Lines.{text_lines}
use Rattle.text_lines.specs.Reading.{ComesFirst}
use Rattle.text_lines.specs.Words.{but_last}
use Rattle.blif_reader.specs.Cards.{card_of, cards_of, ends_with_backslash, has_words, joined, onto_next, uncommented}
use Rattle.blif_reader.specs.Opened.{cards_behind, cards_left, joined_behind, numbered, with_line}
use Rattle.blif_reader.specs.declared.cards.Card.{Card}
use Rattle.blif_reader.specs.declared.cards.Open.{Open}

pub backslash_end : (xs : List ℕ) (b : ℕ) → ends_with_backslash (xs ++ b ∷ []) ≡ (b == 92)
backslash_end [] b = refl
backslash_end (y ∷ []) b = refl
backslash_end (y ∷ z ∷ xs) b = backslash_end (z ∷ xs) b

-- two lines before the rest, one by one or joined
onto_twice : (n : ℕ) (a : List ℕ) (m : ℕ) (b : List ℕ) (rest : List (ℕ × List ℕ)) → onto_next (n, a) (onto_next (m, b) rest) ≡ onto_next (n, a ++ b) rest
onto_twice n a m b [] = refl
onto_twice n a m b (next ∷ rest) = ap (λ bytes. (n, bytes) ∷ rest) (sym (append_assoc a b next.1))

-- a line that ends in `\`
joins : (opened : Option Open) (n : ℕ) (l : List ℕ) (rest : List (ℕ × List ℕ)) → ends_with_backslash (uncommented l) ≡ true
    → joined_behind opened ((n, l) ∷ rest) ≡ joined_behind (Some (with_line opened n (but_last (uncommented l)))) rest
joins None n l rest h = ap (λ b. cond b (onto_next (n, but_last (uncommented l)) (joined rest)) ((n, uncommented l) ∷ joined rest)) h
joins (Some first) n l rest h =
    ap (λ b. onto_next (first.line, first.bytes) (cond b (onto_next (n, but_last (uncommented l)) (joined rest)) ((n, uncommented l) ∷ joined rest))) h
    ∙ onto_twice first.line first.bytes n (but_last (uncommented l)) (joined rest)

-- another line
ends : (opened : Option Open) (n : ℕ) (l : List ℕ) (rest : List (ℕ × List ℕ)) → ends_with_backslash (uncommented l) ≡ false
    → joined_behind opened ((n, l) ∷ rest) ≡ numbered (with_line opened n (uncommented l)) ∷ joined rest
ends None n l rest h = ap (λ b. cond b (onto_next (n, but_last (uncommented l)) (joined rest)) ((n, uncommented l) ∷ joined rest)) h
ends (Some first) n l rest h =
    ap (λ b. onto_next (first.line, first.bytes) (cond b (onto_next (n, but_last (uncommented l)) (joined rest)) ((n, uncommented l) ∷ joined rest))) h

filter_one : {X : Type 0} (p : X → Bool) (x : X) (xs : List X) → filter p (x ∷ []) ++ filter p xs ≡ filter p (x ∷ xs)
filter_one p x xs = by_test (p x) where
  by_test : (b : Bool) → cond b (x ∷ []) [] ++ filter p xs ≡ cond b (x ∷ filter p xs) (filter p xs)
  by_test true = refl
  by_test false = refl

pub front_on : (old : List Card) (opened : Option Open) (number : ℕ) (line front : List ℕ) (now : Open) → ends_with_backslash (uncommented line) ≡ true → front ≡ but_last (uncommented line)
    → now ≡ with_line opened number front
    → (rest : List (ℕ × List ℕ)) → old ++ cards_behind (Some now) rest ≡ old ++ cards_behind opened ((number, line) ∷ rest)
unfolding cards_behind
front_on old opened number line front now h is e rest =
    ap (λ o. old ++ cards_behind (Some o) rest) (e ∙ ap (with_line opened number) is)
    ∙ ap (λ ls. old ++ filter has_words (map card_of ls)) (sym (joins opened number line rest h))

pub last_on : (old new : List Card) (opened : Option Open) (number : ℕ) (line bytes : List ℕ) → ends_with_backslash (uncommented line) ≡ false → bytes ≡ uncommented line
    → new ≡ old ++ filter has_words (card_of (numbered (with_line opened number bytes)) ∷ [])
    → (rest : List (ℕ × List ℕ)) → new ++ cards_behind None rest ≡ old ++ cards_behind opened ((number, line) ∷ rest)
unfolding cards_behind
last_on old new opened number line bytes h is e rest =
    let card : Card = card_of (numbered (with_line opened number (uncommented line))) in
    let behind : List Card = map card_of (joined rest) in
    ap (λ cards. cards ++ filter has_words behind) (e ∙ ap (λ b. old ++ filter has_words (card_of (numbered (with_line opened number b)) ∷ [])) is)
    ∙ append_assoc old (filter has_words (card ∷ [])) (filter has_words behind)
    ∙ ap (λ cards. old ++ cards) (filter_one has_words card behind)
    ∙ ap (λ ls. old ++ filter has_words (map card_of ls)) (sym (ends opened number line rest h))

-- one line more
pub turn_on : (n : ℕ) (bytes line behind : List ℕ) (opened now : Option Open) (card : Option Card) (all : List Card) → text_lines bytes ≡ line ∷ text_lines behind
    → cards_left n bytes opened ≡ all
    → ((rest : List (ℕ × List ℕ)) → option_to_list card ++ cards_behind now rest ≡ cards_behind opened ((n, line) ∷ rest))
    → option_to_list card ++ cards_left (n + 1) behind now ≡ all
unfolding cards_left
turn_on n bytes line behind opened now card all is so_far turn =
    turn (enumerate_from (n + 1) (text_lines behind)) ∙ ap (λ ls. cards_behind opened (enumerate_from n ls)) (sym is) ∙ so_far

no_lines_left : (n : ℕ) (bytes : List ℕ) (opened : Option Open) → text_lines bytes ≡ [] → cards_left n bytes opened ≡ cards_behind opened []
unfolding cards_left
no_lines_left n bytes opened is = ap (λ ls. cards_behind opened (enumerate_from n ls)) is

nothing_behind : cards_behind None [] ≡ []
unfolding cards_behind
nothing_behind = refl

-- behind the last line
pub ends_on : (n : ℕ) (bytes : List ℕ) (opened now : Option Open) (card : Option Card) (all : List Card) → text_lines bytes ≡ [] → cards_left n bytes opened ≡ all
    → option_to_list card ≡ cards_behind opened [] → now ≡ None → ComesFirst card all (cards_left n bytes now)
ends_on n bytes opened now None all is so_far e none = sym so_far ∙ no_lines_left n bytes opened is ∙ sym e
ends_on n bytes opened now (Some card) all is so_far e none =
    sym so_far ∙ no_lines_left n bytes opened is ∙ sym e ∙ ap (λ cards. card ∷ cards) (sym (no_lines_left n bytes now is ∙ ap (λ o. cards_behind o []) none ∙ nothing_behind))

-- at first all cards are left
pub all_left : (text : List ℕ) → cards_left 1 text None ≡ cards_of text
unfolding cards_left cards_behind cards_of
all_left text = refl
