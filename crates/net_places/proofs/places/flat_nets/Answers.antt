use Rattle.std.proofs.Common.{arith, false}
use Rattle.std.proofs.lemmas.Option.{slice_get-get_or}
use Rattle.net_tables.specs.declared.types.CellNet.TheVariants.{Supply}
use Rattle.net_places.proofs.places.flat_nets.Goals as goal

pub place_net-requires : goal.place_net-requires
place_net-requires c i e = c.requires _ (c.loop-net.net-index, slice_get-get_or c.args.nets.now c.loop-net.net-index (Supply false) (omega arith)) i e
