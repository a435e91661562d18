use Rattle.std.proofs.Common.{arith, refl}
use Rattle.std.proofs.lemmas.Option.{slice_get_read}
use Rattle.net_places.proofs.instances.instances_at.Goals as goal

pub instance_at-requires : goal.instance_at-requires
instance_at-requires c =
    c.requires c.place-item.result (c.loop-place.place-index, slice_get_read c.args.places.now _ c.loop-place.place-index _ refl (omega arith) c.place-item.is)
