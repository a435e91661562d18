use Rattle.std.proofs.Common.{◌≡◌, ◌&&◌, not, length}
use Rattle.std.specs.Prelude.{find}
use Rattle.latch_match.specs.Marked.{has_in}
use Rattle.latch_match.specs.Paired.{signal_in_way}
use Rattle.latch_match.proofs.ports.signal_in_way.Given as goal

-- none so far
abbrev pub invariant-signals : goal.invariant-signals
invariant-signals l = find (λ s. not (has_in l.paired.counts.once s) && not (has_in l.paired.carriers s)) l.rest ≡ signal_in_way l.paired

abbrev pub decreases-signals : goal.decreases-signals
decreases-signals l = length l.rest
