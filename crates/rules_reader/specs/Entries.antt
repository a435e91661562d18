-- The lines of a rules file that are not passed over.
use Rattle.std.specs.Prelude.{ℕ, List, [], ◌∷◌, Bool, ◌||◌, if◌then◌else◌, flat_map}
use Rattle.text_lines.specs.Bytes.{begins_with, is_blank_line, is_text, words_of}
use Rattle.std.specs.List.{enumerate_from}
use Rattle.text_lines.specs.Lines.{lines_of, text_lines}
use Rattle.rules_lines.specs.Lines.{entry_of}
use Rattle.rules_reader.specs.declared.cards.Card.{Card}

-- A line that is blank, or whose first byte that is no blank is `#`, is passed over.
abbrev pub is_passed_over : List ℕ → Bool
is_passed_over bytes = is_blank_line bytes || begins_with 35 bytes

abbrev pub card_of : ℕ × List ℕ → Card
card_of line = record { line = line.0; is_all_text = is_text line.1; entry = entry_of (words_of line.1) }

abbrev pub cards_on : ℕ × List ℕ → List Card
cards_on line = if is_passed_over line.1 then [] else card_of line ∷ []

unfoldable pub cards_of : List ℕ → List Card
cards_of text = flat_map cards_on (lines_of text)

-- the cards of the lines of these bytes, the first of which has this number
unfoldable pub cards_left : ℕ → List ℕ → List Card
cards_left number bytes = flat_map cards_on (enumerate_from number (text_lines bytes))
