use Rattle.std.proofs.Common.{◌≡◌, length}
use Rattle.whole_circuits.specs.Outputs.{meets}
use Rattle.whole_circuits.proofs.cell_tests.meets.Given as goal

-- none of the devices so far
abbrev pub invariant-devices : goal.invariant-devices
invariant-devices l = meets l.rest l.net ≡ meets l.fn.devices l.net

abbrev pub decreases-devices : goal.decreases-devices
decreases-devices l = length l.rest
