use Rattle.std.proofs.Common.{subst, sym}
use Rattle.net_places.specs.Places.{HasRoomFor}
use Rattle.net_places.proofs.places.place_inside.Goals as goal

pub flat_nets-requires : goal.flat_nets-requires
flat_nets-requires c = subst (HasRoomFor c.args.place.now.base) (sym c.as_slice.ensures) c.requires.room
