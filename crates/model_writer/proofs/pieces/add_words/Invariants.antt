use Rattle.std.proofs.Common.{◌≡◌, ◌++◌, drop}
use Rattle.model_writer.specs.Pieces.{words_behind}
use Rattle.model_writer.proofs.pieces.add_words.Given as goal

-- the words so far, and what is left
abbrev pub invariant-loop-word : goal.invariant-loop-word
invariant-loop-word l = l.text ++ words_behind (drop l.word-index l.words) ≡ l.initial.text ++ words_behind l.words
