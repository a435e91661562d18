use Rattle.std.proofs.Common.{◌≡◌, ◌++◌, length}
use Rattle.hold_groups.specs.Sources.{elements_of}
use Rattle.hold_groups.proofs.variable_names.add_latches.Given as goal

-- the names so far, and those that are left
abbrev pub invariant-latches : goal.invariant-latches
invariant-latches l = l.names ++ elements_of l.flat l.rest ≡ l.initial.names ++ elements_of l.flat l.fn.latches

abbrev pub decreases-latches : goal.decreases-latches
decreases-latches l = length l.rest
