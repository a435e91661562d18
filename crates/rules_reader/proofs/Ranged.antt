-- Levels and sizes of the lines of a text are in their ranges.
use Rattle.std.proofs.Common.{◌++◌, ◌∷◌, [], ℕ, List, Bool, true, false, cond, subst}
use Rattle.std.specs.Prelude.{flat_map}
use Rattle.text_lines.specs.Bytes.{words_of}
use Rattle.text_lines.specs.Lines.{lines_of}
use Rattle.rules_lines.proofs.Ranged.{Ranged, Said, says_of}
use Rattle.rules_reader.specs.Entries.{card_of, cards_of, cards_on, is_passed_over}
use Rattle.rules_reader.proofs.Fine.{AllSay}

all_ranged : (lines : List (ℕ × List ℕ)) → AllSay Ranged (flat_map cards_on lines)
all_ranged [] = tt
all_ranged (line ∷ lines) = by_test (is_passed_over line.1) (all_ranged lines) where
  by_test : (b : Bool) → AllSay Ranged (flat_map cards_on lines) → AllSay Ranged (cond b [] (card_of line ∷ []) ++ flat_map cards_on lines)
  by_test true rest = rest
  by_test false rest = (λ entry e. subst Said e (says_of (words_of line.1)), rest)

pub ranged : (text : List ℕ) → AllSay Ranged (cards_of text)
unfolding cards_of
ranged text = all_ranged (lines_of text)
