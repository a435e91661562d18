use Rattle.std.proofs.Common.{◌≡◌, ℕ, length, arith, subst}
use Rattle.channel_parts.proofs.AddsLaws.{more_below, none_below}
use Rattle.channel_parts.specs.NetGraphs.{IsDeviceArc, IsDeviceArcBelow}
use Rattle.known_nets.specs.Placed.{Adds}
use Rattle.vrt_model.proofs.Lists.{item_at}
use Rattle.vrt_model.proofs.Members.{all_among}
use Rattle.vrt_model.specs.Circuits.{IsDevice}
use Rattle.vrt_model.specs.Lists.{At}
use Rattle.channel_parts.proofs.net_arcs.lead_devices.Goals as goal

pub loop-device-init : goal.loop-device-init
loop-device-init c =
    none_below c.args.circuit.now.devices (IsDeviceArc c.args.circuit.now c.args.known.now c.args.least.now) c.args.graph.now.items

pub lead_device-requires-clause-left : goal.lead_device-requires-clause-left
lead_device-requires-clause-left c =
    let circuit = c.args.circuit.now in
    let at = c.loop-device.device-index in
    let d = c.device-item.result in
    let there : At circuit.devices at d = item_at circuit.devices c.as_slice-device-items.result.now at d c.as_slice-device-items.ensures c.loop-device-test.true c.device-item.is in
    let inside = (all_among (IsDevice circuit) circuit.devices d c.requires.wired.ranges.devices (at, there)).left in
    let nets = c.requires.nets in
    omega (arith, inside, nets)

pub lead_device-requires-clause-right : goal.lead_device-requires-clause-right
lead_device-requires-clause-right c =
    let circuit = c.args.circuit.now in
    let at = c.loop-device.device-index in
    let d = c.device-item.result in
    let there : At circuit.devices at d = item_at circuit.devices c.as_slice-device-items.result.now at d c.as_slice-device-items.ensures c.loop-device-test.true c.device-item.is in
    let inside = (all_among (IsDevice circuit) circuit.devices d c.requires.wired.ranges.devices (at, there)).right in
    let nets = c.requires.nets in
    omega (arith, inside, nets)

pub loop-device-preserved : goal.loop-device-preserved
loop-device-preserved c =
    let circuit = c.args.circuit.now in
    let at = c.loop-device.device-index in
    let d = c.device-item.result in
    let there : At circuit.devices at d = item_at circuit.devices c.as_slice-device-items.result.now at d c.as_slice-device-items.ensures c.loop-device-test.true c.device-item.is in
    more_below circuit.devices (IsDeviceArc circuit c.args.known.now c.args.least.now) at d c.args.graph.now.items c.loop-device.graph.items c.lead_device.new.graph.items there c.loop-device.invariant
    c.in_ok-lead_device.ensures

pub returns : goal.returns
returns c =
    let shown : length c.as_slice-device-items.result.now ≡ length c.args.circuit.now.devices = cc (c.as_slice-device-items.ensures) in
    let all : c.loop-device.device-index ≡ length c.args.circuit.now.devices = omega (arith, c.loop-device-test.false, c.loop-device.auto.device-index-end, shown) in
    subst (λ (n : ℕ). Adds (IsDeviceArcBelow c.args.circuit.now c.args.known.now c.args.least.now n) c.args.graph.now.items c.loop-device.graph.items) all c.loop-device.invariant
