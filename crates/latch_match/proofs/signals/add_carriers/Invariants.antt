use Rattle.std.proofs.Common.{◌≡◌, ◌||◌, ℕ, length}
use Rattle.vrt_model.specs.Lists.{has_number}
use Rattle.latch_match.specs.Marked.{has_in}
use Rattle.latch_match.specs.Paired.{carriers}
use Rattle.latch_match.proofs.signals.add_carriers.Given as goal

-- the signals so far, and those that are left
abbrev pub invariant-clocked : goal.invariant-clocked
invariant-clocked l = (n : ℕ) → (has_in l.set n || has_number (carriers l.rest) n) ≡ has_number (carriers l.fn.clocked) n

abbrev pub decreases-clocked : goal.decreases-clocked
decreases-clocked l = length l.rest
