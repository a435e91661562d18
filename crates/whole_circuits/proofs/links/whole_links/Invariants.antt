use Rattle.std.proofs.Common.{◌≡◌, ◌++◌, length}
use Rattle.whole_circuits.specs.Links.{links_by}
use Rattle.whole_circuits.proofs.links.whole_links.Given as goal

-- the links so far with those of the phases that are left
abbrev pub invariant-phases : goal.invariant-phases
invariant-phases l =
    l.links ++ links_by l.ports l.nets l.outputs l.phases_left l.own_left ≡ links_by l.fn.ports l.fn.nets l.fn.outputs l.fn.phases l.fn.own

abbrev pub decreases-phases : goal.decreases-phases
decreases-phases l = length l.phases_left
