use Rattle.std.proofs.Common.{◌≡◌, ℕ, Option, length, arith, ap, subst, ◌∙◌}
use Rattle.vrt_model.proofs.Lists.{item_at}
use Rattle.vrt_model.proofs.Members.{all_among}
use Rattle.vrt_model.specs.Circuits.{IsDevice}
use Rattle.channel_parts.proofs.GroupLaws.{device_placed, more_grouped, none_grouped, placed_as}
use Rattle.channel_parts.specs.Groups.{AreGroups, device_owner_at}
use Rattle.known_nets.specs.Placed.{IsPlaced}
use Rattle.vrt_model.specs.Lists.{At}
use Rattle.channel_parts.proofs.grouping.devices_by_part.Goals as goal

pub loop-at-init : goal.loop-at-init
loop-at-init c = record {
  len = c.in_ok-groups.ensures.len;
  groups = none_grouped (device_owner_at c.args.circuit.now c.args.known.now c.args.least.now c.args.bare) c.in_ok-groups.groups.items c.in_ok-groups.ensures.empty;
}

pub device_owner-owner-requires-clause-left : goal.device_owner-owner-requires-clause-left
device_owner-owner-requires-clause-left c =
    let circuit = c.args.circuit.now in
    let at = c.loop-at.at in
    let d = c.device-item.result in
    let there : At circuit.devices at d = item_at circuit.devices c.as_slice-device-items.result.now at d c.as_slice-device-items.ensures c.loop-at-test.true c.device-item.is in
    let inside = (all_among (IsDevice circuit) circuit.devices d c.requires.wired.ranges.devices (at, there)).left in
    let nets = c.requires.nets in
    omega (arith, inside, nets)

pub device_owner-owner-requires-clause-right : goal.device_owner-owner-requires-clause-right
device_owner-owner-requires-clause-right c =
    let circuit = c.args.circuit.now in
    let at = c.loop-at.at in
    let d = c.device-item.result in
    let there : At circuit.devices at d = item_at circuit.devices c.as_slice-device-items.result.now at d c.as_slice-device-items.ensures c.loop-at-test.true c.device-item.is in
    let inside = (all_among (IsDevice circuit) circuit.devices d c.requires.wired.ranges.devices (at, there)).right in
    let nets = c.requires.nets in
    omega (arith, inside, nets)

pub loop-at-preserved : goal.loop-at-preserved
loop-at-preserved c =
    let circuit = c.args.circuit.now in
    let owner : ℕ → Option ℕ = device_owner_at circuit c.args.known.now c.args.least.now c.args.bare in
    let at = c.loop-at.at in
    let there : At circuit.devices at c.device-item.result =
    item_at circuit.devices c.as_slice-device-items.result.now at c.device-item.result c.as_slice-device-items.ensures c.loop-at-test.true c.device-item.is in
    let placed : IsPlaced (owner at) at c.loop-at.groups.items c.place.new.groups.items =
    placed_as c.device_owner-owner.result (owner at) c.in_ok-number.number at c.loop-at.groups.items c.place.new.groups.items
    (c.device_owner-owner.ensures ∙ device_placed circuit c.args.known.now c.args.least.now c.args.bare at c.device-item.result there) c.in_ok-number.ensures c.in_ok-place.ensures in
    record {
      len = placed.count ∙ c.loop-at.invariant.len;
      groups = more_grouped owner at c.loop-at.groups.items c.place.new.groups.items placed c.loop-at.invariant.groups;
    }

pub returns-clause-groups : goal.returns-clause-groups
returns-clause-groups c =
    let circuit = c.args.circuit.now in
    let same : length c.as_slice-device-items.result.now ≡ length circuit.devices = ap length c.as_slice-device-items.ensures in
    let all : c.loop-at.at ≡ length circuit.devices = omega (arith, c.loop-at-test.false, c.loop-at.auto.at-end, same) in
    subst (λ (n : ℕ). AreGroups (device_owner_at circuit c.args.known.now c.args.least.now c.args.bare) n c.loop-at.groups.items) all c.loop-at.invariant.groups
