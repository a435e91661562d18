use Rattle.std.proofs.Common.{◌≡◌, ◌++◌, length}
use Rattle.latch_match.specs.Marked.{has_in}
use Rattle.latch_match.specs.Paired.{clocked_without_port}
use Rattle.latch_match.proofs.signals.add_clocked_signals.Given as goal

-- the signals so far, and those that are left
abbrev pub invariant-signals : goal.invariant-signals
invariant-signals l = l.list ++ clocked_without_port l.flat l.rules (has_in l.paired) l.rest ≡ l.initial.list ++ clocked_without_port l.flat l.rules (has_in l.paired) l.fn.signals

abbrev pub decreases-signals : goal.decreases-signals
decreases-signals l = length l.rest
