use Rattle.std.proofs.Common.{◌≡◌, ◌++◌, length}
use Rattle.std.specs.List.{flat_map}
use Rattle.whole_circuits.specs.Links.{links_over}
use Rattle.whole_circuits.proofs.links.add_phase.Given as goal

-- the links so far with those over the links that are left
abbrev pub invariant-links : goal.invariant-links
invariant-links l =
    l.links ++ flat_map (links_over l.phase l.ports l.nets l.outputs) l.rest
    ≡ l.initial.links ++ flat_map (links_over l.phase l.ports l.nets l.outputs) l.fn.own

abbrev pub decreases-links : goal.decreases-links
decreases-links l = length l.rest
