use Rattle.std.proofs.Common.{◌≡◌, ◌++◌, length}
use Rattle.std.specs.Prelude.{filter_map}
use Rattle.port_links.specs.Linked.{link_from}
use Rattle.port_links.proofs.links.add_links.Given as goal

-- the links so far with those of the ports that are left
abbrev pub invariant-ports : goal.invariant-ports
invariant-ports l =
    l.links ++ filter_map (link_from l.circuit l.least l.target l.named l.to) l.rest
    ≡ l.initial.links ++ filter_map (link_from l.circuit l.least l.target l.named l.to) l.fn.ports

abbrev pub decreases-ports : goal.decreases-ports
decreases-ports l = length l.rest
