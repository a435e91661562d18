use Rattle.std.proofs.Common.{◌≡◌, ◌++◌, length, map}
use Rattle.net_places.specs.OwnNets.{given_names}
use Rattle.vrt_model.specs.FlatCircuit.{plain_net}
use Rattle.net_places.proofs.nets.add_globals.Given as goal

-- the nets so far, with those of the names that are left
abbrev pub invariant-names : goal.invariant-names
invariant-names l = l.nets ++ map plain_net (given_names l.left l.globals_left) ≡ l.fn.nets ++ map plain_net (given_names l.fn.names l.fn.globals)

abbrev pub decreases-names : goal.decreases-names
decreases-names l = length l.left
