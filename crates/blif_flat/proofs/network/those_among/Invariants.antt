use Rattle.std.proofs.Common.{◌≡◌, [], filter, take}
use Rattle.vrt_model.specs.Lists.{has_name}
use Rattle.names.specs.Names.{with_names}
use Rattle.blif_flat.proofs.network.those_among.Given as goal

-- those so far
abbrev pub invariant-loop-name : goal.invariant-loop-name
invariant-loop-name l = l.names ≡ with_names [] (filter (has_name l.others) (take l.name-index l.list))
