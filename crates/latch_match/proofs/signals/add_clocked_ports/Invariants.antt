use Rattle.std.proofs.Common.{◌≡◌, ◌++◌, length}
use Rattle.std.specs.Prelude.{filter_map}
use Rattle.latch_match.specs.Facts.{clock_carried}
use Rattle.latch_match.proofs.signals.add_clocked_ports.Given as goal

-- the signals so far, and those that are left
abbrev pub invariant-facts : goal.invariant-facts
invariant-facts l = l.list ++ filter_map clock_carried l.rest ≡ l.initial.list ++ filter_map clock_carried l.fn.facts

abbrev pub decreases-facts : goal.decreases-facts
decreases-facts l = length l.rest
