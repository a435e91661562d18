use Rattle.flat_devices.proofs.NetLaws.{first_room, rest_room}
use Rattle.flat_devices.proofs.PlaceLaws.{card_more}
use Rattle.flat_devices.specs.Devices.{device_by}
use Rattle.flat_devices.proofs.devices.add_devices.Goals as goal

pub add_device-requires : goal.add_device-requires
add_device-requires c = first_room c.args.place.now.base c.cards.nets_left.now c.in-Some-Some.later.now c.in-Some-Some.nets.now c.in-Some-Some.ensures'.cases.0 c.cards.invariant.1

pub cards-preserved : goal.cards-preserved
cards-preserved c = (
  card_more (device_by c.args.models.now c.args.table.now c.args.globals.now c.args.place.now) c.cards.cards_left.now c.in-Some-Some.cards.now c.cards.nets_left.now c.in-Some-Some.later.now
      c.in-Some-Some.card.now c.in-Some-Some.nets.now c.cards.found c.add_device.new.found _ c.in-Some-Some.ensures.cases.0 c.in-Some-Some.ensures'.cases.0
      c.in_ok-add_device.ensures c.cards.invariant.0,
  rest_room c.args.place.now.base c.cards.nets_left.now c.in-Some-Some.later.now c.in-Some-Some.nets.now c.in-Some-Some.ensures'.cases.0 c.cards.invariant.1,
)
