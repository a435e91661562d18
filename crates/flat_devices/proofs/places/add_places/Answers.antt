use Rattle.std.proofs.Common.{arith, refl}
use Rattle.std.proofs.lemmas.Option.{slice_get_read}
use Rattle.flat_devices.proofs.places.add_places.Goals as goal

pub add_place-requires-clause-room : goal.add_place-requires-clause-room
add_place-requires-clause-room c =
    c.requires.room c.place-item.result (c.loop-place.place-index, slice_get_read c.args.places.now _ c.loop-place.place-index _ refl (omega arith) c.place-item.is)
