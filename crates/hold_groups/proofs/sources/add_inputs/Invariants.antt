use Rattle.std.proofs.Common.{◌≡◌, ◌++◌, length}
use Rattle.hold_groups.specs.Sources.{input_sources}
use Rattle.hold_groups.proofs.sources.add_inputs.Given as goal

-- the inputs so far, and those that are left
abbrev pub invariant-nets : goal.invariant-nets
invariant-nets l = l.sources ++ input_sources l.number l.rest ≡ l.initial.sources ++ input_sources 0 l.fn.nets

abbrev pub decreases-nets : goal.decreases-nets
decreases-nets l = length l.rest
