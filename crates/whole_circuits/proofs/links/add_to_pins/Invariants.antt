use Rattle.std.proofs.Common.{◌≡◌, ◌++◌, length}
use Rattle.std.specs.List.{enumerate_from}
use Rattle.std.specs.Prelude.{filter_map}
use Rattle.whole_circuits.specs.Links.{link_to}
use Rattle.whole_circuits.proofs.links.add_to_pins.Given as goal

-- the links so far with those to the pins that are left
abbrev pub invariant-pins : goal.invariant-pins
invariant-pins l =
    l.links ++ filter_map (link_to l.phase l.over) (enumerate_from l.at l.rest)
    ≡ l.initial.links ++ filter_map (link_to l.phase l.over) (enumerate_from 0 l.fn.outputs)

abbrev pub decreases-pins : goal.decreases-pins
decreases-pins l = length l.rest
