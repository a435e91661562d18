use Rattle.std.proofs.Common.{◌≡◌, ◌++◌, drop}
use Rattle.witness.proofs.Spaces.{spaced_behind}
use Rattle.witness.proofs.verdict_lines.spread.Given as goal

-- the words so far, and those that are left
abbrev pub invariant-loop-word : goal.invariant-loop-word
invariant-loop-word l = l.text ++ spaced_behind (drop l.word-index l.rest) ≡ l.initial.text ++ spaced_behind l.rest
