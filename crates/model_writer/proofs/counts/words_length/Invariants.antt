use Rattle.std.proofs.Common.{◌≡◌, ◌+◌, drop, length}
use Rattle.model_writer.specs.Pieces.{words_behind}
use Rattle.model_writer.proofs.counts.words_length.Given as goal

-- the words so far, and what is left
abbrev pub invariant-loop-word : goal.invariant-loop-word
invariant-loop-word l = l.count + length (words_behind (drop l.word-index l.words)) ≡ length (words_behind l.words)
