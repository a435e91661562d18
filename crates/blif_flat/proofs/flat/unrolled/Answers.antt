use Rattle.std.proofs.Common.{ap, length}
use Rattle.vrt_model.specs.FlatBlif.{ModelPlace}
use Rattle.blif_flat.specs.Places.{place_in}
use Rattle.blif_flat.proofs.PlaceLaws.{flat_is, place_room, top_size}
use Rattle.blif_flat.proofs.flat.unrolled.Goals as goal

pub unroll-requires-clause-room : goal.unroll-requires-clause-room
unroll-requires-clause-room c = top_size c.args.blif.now c.args.model _ (place_in c.args.top.now) c.requires.is_top c.requires.limit (ap length c.new.ensures)

pub interface_at-requires : goal.interface_at-requires
interface_at-requires c =
    place_room c.args.blif.now 32 c.args.top.now c.requires.place
    (top_size c.args.blif.now c.args.model c.args.top.now.base (place_in c.args.top.now) c.requires.is_top c.requires.limit (ap (λ (p : ModelPlace). p.base) c.requires.is_top))

pub returns : goal.returns
returns c =
    flat_is c.args.blif.now c.args.model c.args.top.now c.unroll.new.parts _ c.in_ok-interface.interface c.new-4.result c.requires.place c.requires.is_top c.new.ensures c.new-2.ensures c.new-3.ensures c.new-4.ensures
    c.in_ok-unroll.ensures c.in_ok-interface.ensures
