use Rattle.std.proofs.Common.{List, flat_map, subst, sym}
use Rattle.std.proofs.lemmas.Result.{on_ok_weaker}
use Rattle.flat_devices.proofs.PlaceLaws.{place_more}
use Rattle.net_places.specs.Globals.{nets_on}
use Rattle.net_places.specs.Places.{HasRoomFor}
use Rattle.net_tables.specs.declared.types.DeviceNets.{DeviceNets}
use Rattle.flat_devices.proofs.places.add_by.Goals as goal

pub add_devices-requires : goal.add_devices-requires
add_devices-requires c = subst (λ (nets : List DeviceNets). HasRoomFor c.args.place.now.base (flat_map nets_on nets)) (sym c.nets_of-nets.ensures) c.requires.room

pub returns : goal.returns
returns c =
    on_ok_weaker c.add_devices.result
    (place_more c.args.design.now c.args.rules.now c.args.tables.now c.args.index.now c.fill.new.self c.args.globals.now c.args.place.now c.requires.indexed c.requires.tables
    c.cell_name-name.result.now c.cards_of-cards.result.now c.nets_of-nets.result.now c.in_ok-fill.ensures c.cell_name-name.ensures c.cards_of-cards.ensures c.nets_of-nets.ensures
    c.args.found.now c.add_devices.new.found) c.add_devices.ensures
