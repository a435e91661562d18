use Rattle.std.proofs.Common.{List, ap₂, flat_map, subst, sym, ◌∙◌}
use Rattle.flat_devices.proofs.NetLaws.{room_for}
use Rattle.flat_devices.proofs.PlaceLaws.{devices_are}
use Rattle.flat_devices.specs.Devices.{HaveRoom, said_devices}
use Rattle.net_places.specs.declared.places.Place.{Place}
use Rattle.vrt_model.specs.declared.ids.Net.{Net}
use Rattle.flat_devices.proofs.places.flat_devices.Goals as goal

pub add_places-requires-clause-room : goal.add_places-requires-clause-room
add_places-requires-clause-room c =
    subst (HaveRoom c.args.tables.now) (sym c.as_slice-places.ensures) (room_for c.args.design.now c.args.rules.now c.args.tables.now c.requires.tables c.args.unrolled.now c.requires.unrolled)

pub returns : goal.returns
returns c cell roles is =
    c.in_ok-add_places.ensures
    ∙ ap₂ (λ (globals : List Net) (places : List Place). flat_map (said_devices c.args.design.now c.args.rules.now globals) places) c.as_slice-globals.ensures c.as_slice-places.ensures
    ∙ devices_are c.args.design.now c.args.rules.now cell roles c.args.unrolled.now is
