use Rattle.std.proofs.Common.{◌≡◌, ℕ, length, arith, subst}
use Rattle.channel_parts.proofs.AddsLaws.{more_below, none_below}
use Rattle.channel_parts.specs.NetGraphs.{ArcsBelow, IsWholeArc}
use Rattle.known_nets.specs.Placed.{Adds}
use Rattle.vrt_model.proofs.Lists.{item_at}
use Rattle.vrt_model.proofs.Members.{all_among}
use Rattle.vrt_model.specs.Circuits.{IsWhole}
use Rattle.vrt_model.specs.Lists.{At}
use Rattle.channel_parts.proofs.net_arcs.lead_wholes.Goals as goal

pub loop-whole-init : goal.loop-whole-init
loop-whole-init c = none_below c.args.circuit.now.wholes (IsWholeArc c.args.circuit.now c.args.phase.now c.args.least.now) c.args.graph.now.items

pub lead_links-requires-clause-whole : goal.lead_links-requires-clause-whole
lead_links-requires-clause-whole c =
    let circuit = c.args.circuit.now in
    let at = c.loop-whole.whole-index in
    let w = c.whole-item.result in
    let there : At circuit.wholes at w = item_at circuit.wholes c.as_slice-whole-items.result.now at w c.as_slice-whole-items.ensures c.loop-whole-test.true c.whole-item.is in
    all_among (IsWhole circuit) circuit.wholes w c.requires.wired.ranges.wholes (at, there)

pub loop-whole-preserved : goal.loop-whole-preserved
loop-whole-preserved c =
    let circuit = c.args.circuit.now in
    let at = c.loop-whole.whole-index in
    let w = c.whole-item.result in
    let there : At circuit.wholes at w = item_at circuit.wholes c.as_slice-whole-items.result.now at w c.as_slice-whole-items.ensures c.loop-whole-test.true c.whole-item.is in
    more_below circuit.wholes (IsWholeArc circuit c.args.phase.now c.args.least.now) at w c.args.graph.now.items c.loop-whole.graph.items c.lead_links.new.graph.items there
    c.loop-whole.invariant c.in_ok-lead_links.ensures

pub returns : goal.returns
returns c =
    let circuit = c.args.circuit.now in
    let shown : length c.as_slice-whole-items.result.now ≡ length circuit.wholes = cc (c.as_slice-whole-items.ensures) in
    let all : c.loop-whole.whole-index ≡ length circuit.wholes = omega (arith, c.loop-whole-test.false, c.loop-whole.auto.whole-index-end, shown) in
    subst (λ (n : ℕ). Adds (ArcsBelow circuit.wholes (IsWholeArc circuit c.args.phase.now c.args.least.now) n) c.args.graph.now.items c.loop-whole.graph.items) all c.loop-whole.invariant
