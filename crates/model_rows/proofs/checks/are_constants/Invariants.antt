use Rattle.std.proofs.Common.{◌≡◌, ℕ, ◌<◌, Bool, Some, cond}
use Rattle.bdd_core.specs.Words.{word_at}
use Rattle.blif_eval.specs.Plans.{entry_of}
use Rattle.model_rows.proofs.checks.are_constants.Given as goal

-- the words so far whose bits are known are constants
abbrev pub invariant-loop-s : goal.invariant-loop-s
invariant-loop-s l = (k : ℕ) (b : Bool) → k < l.s → entry_of l.known k ≡ Some b → word_at l.store l.span k ≡ cond b 1 0
