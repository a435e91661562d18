use Rattle.std.proofs.Common.{◌≡◌, ℕ, length, arith, subst}
use Rattle.channel_parts.proofs.AddsLaws.{more_below, none_below}
use Rattle.channel_parts.specs.NetGraphs.{ArcsBelow}
use Rattle.channel_parts.specs.Sources.{IsWholeBetween}
use Rattle.known_nets.specs.Placed.{Adds}
use Rattle.vrt_model.proofs.Lists.{item_at}
use Rattle.vrt_model.proofs.Members.{all_among}
use Rattle.vrt_model.specs.Circuits.{IsWhole}
use Rattle.vrt_model.specs.Lists.{At}
use Rattle.channel_parts.proofs.sources.join_wholes.Goals as goal

pub loop-whole-init : goal.loop-whole-init
loop-whole-init c = none_below c.args.circuit.now.wholes (IsWholeBetween c.args.circuit.now c.args.phase.now c.args.known.now c.args.least.now) c.args.sources.now.items

pub join_links-requires-clause-whole : goal.join_links-requires-clause-whole
join_links-requires-clause-whole c =
    let circuit = c.args.circuit.now in
    let at = c.loop-whole.whole-index in
    let w = c.whole-item.result in
    let there : At circuit.wholes at w = item_at circuit.wholes c.as_slice-whole-items.result.now at w c.as_slice-whole-items.ensures c.loop-whole-test.true c.whole-item.is in
    all_among (IsWhole circuit) circuit.wholes w c.requires.wired.ranges.wholes (at, there)

pub loop-whole-preserved : goal.loop-whole-preserved
loop-whole-preserved c =
    let circuit = c.args.circuit.now in
    let at = c.loop-whole.whole-index in
    let w = c.whole-item.result in
    let there : At circuit.wholes at w = item_at circuit.wholes c.as_slice-whole-items.result.now at w c.as_slice-whole-items.ensures c.loop-whole-test.true c.whole-item.is in
    more_below circuit.wholes (IsWholeBetween circuit c.args.phase.now c.args.known.now c.args.least.now) at w c.args.sources.now.items c.loop-whole.sources.items c.join_links.new.sources.items there
    c.loop-whole.invariant c.in_ok-join_links.ensures

pub returns : goal.returns
returns c =
    let circuit = c.args.circuit.now in
    let shown : length c.as_slice-whole-items.result.now ≡ length circuit.wholes = cc (c.as_slice-whole-items.ensures) in
    let all : c.loop-whole.whole-index ≡ length circuit.wholes = omega (arith, c.loop-whole-test.false, c.loop-whole.auto.whole-index-end, shown) in
    subst (λ (n : ℕ). Adds (ArcsBelow circuit.wholes (IsWholeBetween circuit c.args.phase.now c.args.known.now c.args.least.now) n) c.args.sources.now.items c.loop-whole.sources.items) all c.loop-whole.invariant
