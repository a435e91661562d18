use Rattle.std.proofs.Common.{◌≡◌, ◌++◌, ℕ, List, map, take}
use Rattle.vrt_model.specs.FlatCircuit.{plain_net}
use Rattle.vrt_model.specs.Lists.{path_name}
use Rattle.net_places.proofs.nets.add_named.Given as goal

-- the nets so far
abbrev pub invariant-names : goal.invariant-names
invariant-names l = l.nets ≡ l.fn.nets ++ map (λ (name : List ℕ). plain_net (path_name l.path name)) (take l.name-index l.names)
