-- The cards as they are read from the front.
use Rattle.std.specs.Prelude.{ℕ, List, ◌++◌, map, filter, Option, Some, None}
use Rattle.std.specs.List.{enumerate_from}
use Rattle.text_lines.specs.Lines.{text_lines}
use Rattle.blif_reader.specs.Cards.{card_of, has_words, joined, onto_next}
use Rattle.blif_reader.specs.declared.cards.Card.{Card}
use Rattle.blif_reader.specs.declared.cards.Open.{Open}

-- the lines so far, with a line more
abbrev pub with_line : Option Open → ℕ → List ℕ → Open
with_line None number bytes = record { line = number; bytes = bytes }
with_line (Some first) number bytes = record { line = first.line; bytes = first.bytes ++ bytes }

abbrev pub numbered : Open → ℕ × List ℕ
numbered lines = (lines.line, lines.bytes)

-- the lines behind one that is to be joined on, that one among them
abbrev pub joined_behind : Option Open → List (ℕ × List ℕ) → List (ℕ × List ℕ)
joined_behind None rest = joined rest
joined_behind (Some first) rest = onto_next (numbered first) (joined rest)

unfoldable pub cards_behind : Option Open → List (ℕ × List ℕ) → List Card
cards_behind opened rest = filter has_words (map card_of (joined_behind opened rest))

-- the cards of these lines and of the lines of these bytes, the first of which has this number
unfoldable pub cards_left : ℕ → List ℕ → Option Open → List Card
cards_left number bytes opened = cards_behind opened (enumerate_from number (text_lines bytes))
