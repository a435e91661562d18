use Rattle.std.proofs.Common.{◌≡◌, ◌++◌, length}
use Rattle.std.specs.Prelude.{filter_map}
use Rattle.port_drives.specs.Ports.{output_net}
use Rattle.port_drives.proofs.nets.nets_of.Given as goal

-- the nets so far, and those of the ports that are left
abbrev pub invariant-ports : goal.invariant-ports
invariant-ports l = l.nets ++ filter_map output_net l.rest ≡ filter_map output_net l.fn.ports

abbrev pub decreases-ports : goal.decreases-ports
decreases-ports l = length l.rest
