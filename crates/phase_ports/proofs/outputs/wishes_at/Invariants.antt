use Rattle.std.proofs.Common.{◌≡◌, ◌++◌, length}
use Rattle.std.specs.Prelude.{filter_map}
use Rattle.phase_ports.specs.Seen.{seen_wish}
use Rattle.phase_ports.proofs.outputs.wishes_at.Given as goal

-- the wishes so far, and those of the ports that are left
abbrev pub invariant-ports : goal.invariant-ports
invariant-ports l =
    l.wishes ++ filter_map (seen_wish l.rules l.cell l.phase l.bits) l.rest ≡ filter_map (seen_wish l.rules l.cell l.phase l.bits) l.fn.ports

abbrev pub decreases-ports : goal.decreases-ports
decreases-ports l = length l.rest
