use Rattle.std.proofs.Common.{◌≡◌, length}
use Rattle.std.specs.Prelude.{find}
use Rattle.latch_match.specs.Marked.{has_in}
use Rattle.latch_match.proofs.ports.first_output.Given as goal

-- none so far
abbrev pub invariant-signals : goal.invariant-signals
invariant-signals l = find (has_in l.outputs) l.rest ≡ find (has_in l.outputs) l.fn.signals

abbrev pub decreases-signals : goal.decreases-signals
decreases-signals l = length l.rest
