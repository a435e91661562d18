-- The cards of a BLIF text: from bytes to lines, from lines to cards, from cards to words.
use Rattle.std.specs.Prelude.{ℕ, List, [], ◌∷◌, ◌++◌, Bool, false, not, ◌==◌, if◌then◌else◌, map, filter, bytes_eq}
use Rattle.blif_reader.specs.declared.cards.Card.{Card}
use Rattle.text_lines.specs.Bytes.{is_text, words_of}
use Rattle.text_lines.specs.Groups.{up_to}
use Rattle.text_lines.specs.Lines.{lines_of}
use Rattle.text_lines.specs.Words.{but_last, word_at}
use Rattle.vrt_model.specs.Lists.{is_empty}

-- `#` begins a comment to the end of the line.
abbrev pub is_hash : ℕ → Bool
is_hash b = b == 35

abbrev pub uncommented : List ℕ → List ℕ
uncommented line = up_to is_hash line

-- a `\` is the last byte
abbrev pub ends_with_backslash : List ℕ → Bool
ends_with_backslash [] = false
ends_with_backslash (b ∷ []) = b == 92
ends_with_backslash (b ∷ c ∷ bs) = ends_with_backslash (c ∷ bs)

-- a line before the rest, without a blank between them
abbrev pub onto_next : ℕ × List ℕ → List (ℕ × List ℕ) → List (ℕ × List ℕ)
onto_next line [] = line ∷ []
onto_next line (next ∷ rest) = (line.0, line.1 ++ next.1) ∷ rest

-- After that, a `\` as the last byte joins the next line on. The card's line is its first. In the last line a `\` joins
-- nothing and is dropped.
abbrev pub joined : List (ℕ × List ℕ) → List (ℕ × List ℕ)
joined [] = []
joined (line ∷ lines) =
    let bytes = uncommented line.1 in
    if ends_with_backslash bytes then onto_next (line.0, but_last bytes) (joined lines) else (line.0, bytes) ∷ joined lines

-- Words are separated by blanks. Case is kept.
abbrev pub card_of : ℕ × List ℕ → Card
card_of line = record { line = line.0; is_all_text = is_text line.1; words = words_of line.1 }

abbrev pub has_words : Card → Bool
has_words card = not (is_empty card.words)

-- Blank cards are passed over.
unfoldable pub cards_of : List ℕ → List Card
cards_of text = filter has_words (map card_of (joined (lines_of text)))

abbrev pub first_word : Card → List ℕ
first_word card = word_at card.words 0

abbrev pub has_first : List ℕ → Card → Bool
has_first word card = bytes_eq (first_word card) word
