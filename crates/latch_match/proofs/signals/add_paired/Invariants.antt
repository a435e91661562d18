use Rattle.std.proofs.Common.{◌≡◌, ◌++◌, length}
use Rattle.std.specs.Prelude.{filter_map}
use Rattle.latch_match.specs.Facts.{signal_paired}
use Rattle.latch_match.proofs.signals.add_paired.Given as goal

-- the signals so far, and those that are left
abbrev pub invariant-facts : goal.invariant-facts
invariant-facts l = l.list ++ filter_map signal_paired l.rest ≡ filter_map signal_paired l.fn.facts

abbrev pub decreases-facts : goal.decreases-facts
decreases-facts l = length l.rest
