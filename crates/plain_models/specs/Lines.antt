-- A text that is written line by line, each line a card of words with one space between them.
use Rattle.std.specs.Prelude.{◌≡◌, ℕ, ◌+◌, Bool, true, not, ◌&&◌, List, [], ◌∷◌, ◌++◌, flat_map}
use Rattle.std.specs.List.{list_all}
use Rattle.blif_reader.specs.Cards.{cards_of, ends_with_backslash, is_hash}
use Rattle.blif_reader.specs.declared.cards.Card.{Card}
use Rattle.text_lines.specs.Bytes.{is_blank, is_text_byte}
use Rattle.vrt_model.specs.Lists.{is_empty}
use Rattle.vrt_model.specs.VerdictText.{spaced}

-- a byte that may stand in a word: text, no blank and no `#`
abbrev pub is_word_byte : ℕ → Bool
is_word_byte b = is_text_byte b && not (is_blank b) && not (is_hash b)

-- a word that may stand anywhere on a line, also at its end, where a `\` would join the next line on
abbrev pub is_good_word : List ℕ → Bool
is_good_word word = not (is_empty word) && list_all is_word_byte word && not (ends_with_backslash word)

-- some words, each of them good
abbrev pub is_good_line : List (List ℕ) → Bool
is_good_line words = not (is_empty words) && list_all is_good_word words

-- a line with its end
abbrev pub ended : List ℕ → List ℕ
ended line = line ++ 10 ∷ []

-- the text of lines of words
abbrev pub text_of : List (List (List ℕ)) → List ℕ
text_of lines = flat_map (λ words. ended (spaced words)) lines

-- the card that these words are on this line
abbrev pub card_on : ℕ → List (List ℕ) → Card
card_on line words = record { line = line; is_all_text = true; words = words }

-- the cards that lines are, from a number on
abbrev pub cards_from : ℕ → List (List (List ℕ)) → List Card
cards_from line [] = []
cards_from line (words ∷ lines) = card_on line words ∷ cards_from (line + 1) lines

-- The law: the text of good lines has these cards.
abbrev pub LinesAreRead : Type 0
LinesAreRead = (lines : List (List (List ℕ))) → list_all is_good_line lines ≡ true → cards_of (text_of lines) ≡ cards_from 1 lines
