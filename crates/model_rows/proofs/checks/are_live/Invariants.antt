use Rattle.std.proofs.Common.{ℕ, ◌<◌, length}
use Rattle.bdd_core.specs.Words.{word_at}
use Rattle.model_rows.proofs.checks.are_live.Given as goal

-- the words so far are live handles
abbrev pub invariant-loop-s : goal.invariant-loop-s
invariant-loop-s l = (k : ℕ) → k < l.s → word_at l.store l.span k < length l.store.nodes
