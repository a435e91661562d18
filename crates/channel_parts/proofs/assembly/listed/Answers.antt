use Rattle.std.proofs.Common.{◌≡◌, length, arith, ap, subst, sym}
use Rattle.std.specs.Prelude.{filter}
use Rattle.channel_parts.proofs.PartLaws.{pair_inside, parts_made}
use Rattle.channel_parts.specs.Groups.{AreGroups, AreMade, device_owner_at, is_head, net_owner}
use Rattle.channel_parts.specs.Listings.{AreInOrder}
use Rattle.channel_parts.proofs.assembly.listed.Goals as goal

pub parts_of-requires-clause-nets : goal.parts_of-requires-clause-nets
parts_of-requires-clause-nets c i pair at =
    let order : AreInOrder c.args.circuit.now c.args.ranks.now c.args.least.now c.as_slice.result.now = subst (AreInOrder c.args.circuit.now c.args.ranks.now c.args.least.now) (sym c.as_slice.ensures.value) c.in_ok-order.ensures in
    let inside = pair_inside c.args.circuit.now c.args.ranks.now c.args.least.now c.as_slice.result.now order i pair at in
    let same : length c.as_slice-2.result.now ≡ length c.in_ok-nets.nets.items = ap length c.as_slice-2.ensures.value in
    omega (arith, inside, same, c.in_ok-nets.ensures.len, c.requires.nets)

pub returns : goal.returns
returns c phase table are even =
    let circuit = c.args.circuit.now in
    let known = c.args.known.now in
    let least = c.args.least.now in
    let ranks = c.args.ranks.now in
    let order : AreInOrder circuit ranks least c.as_slice.result.now = subst (AreInOrder circuit ranks least) (sym c.as_slice.ensures.value) c.in_ok-order.ensures in
    let nets : AreGroups (net_owner circuit least) (length least) c.as_slice-2.result.now = subst (AreGroups (net_owner circuit least) (length least)) (sym c.as_slice-2.ensures.value) c.in_ok-nets.ensures.groups in
    let devices : AreGroups (device_owner_at circuit known least c.args.bare) (length circuit.devices) c.as_slice-3.result.now =
    subst (AreGroups (device_owner_at circuit known least c.args.bare) (length circuit.devices)) (sym c.as_slice-3.ensures.value) c.in_ok-devices.ensures.groups in
    let made : AreMade c.as_slice-2.result.now c.as_slice-3.result.now (filter is_head c.as_slice.result.now) c.in_ok-list.list = c.in_ok-list.ensures in
    parts_made circuit phase known least c.args.bare table are ranks c.requires.nets even c.as_slice-2.result.now c.as_slice-3.result.now nets devices
    c.as_slice.result.now c.in_ok-list.list order made c.in_ok-bits.bits c.in_ok-bits.ensures c.requires.known
