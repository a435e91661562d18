use Rattle.std.proofs.Common.{◌≡◌, ℕ, length, arith, subst}
use Rattle.channel_parts.proofs.AddsLaws.{more_below, none_below}
use Rattle.channel_parts.specs.NetGraphs.{ArcsBelow, IsLinkArc}
use Rattle.known_nets.specs.Placed.{Adds}
use Rattle.vrt_model.proofs.Lists.{item_at}
use Rattle.vrt_model.specs.Lists.{At}
use Rattle.channel_parts.proofs.net_arcs.lead_links.Goals as goal

pub loop-link-init : goal.loop-link-init
loop-link-init c = none_below c.args.whole.now.links (IsLinkArc c.args.circuit.now c.args.phase.now c.args.least.now c.args.whole.now) c.args.graph.now.items

pub loop-link-preserved : goal.loop-link-preserved
loop-link-preserved c =
    let w = c.args.whole.now in
    let at = c.loop-link.link-index in
    let link = c.link-item.result in
    let there : At w.links at link = item_at w.links c.as_slice-link-items.result.now at link c.as_slice-link-items.ensures c.loop-link-test.true c.link-item.is in
    more_below w.links (IsLinkArc c.args.circuit.now c.args.phase.now c.args.least.now w) at link c.args.graph.now.items c.loop-link.graph.items c.lead_link.new.graph.items there
    c.loop-link.invariant c.in_ok-lead_link.ensures

pub returns : goal.returns
returns c =
    let w = c.args.whole.now in
    let shown : length c.as_slice-link-items.result.now ≡ length w.links = cc (c.as_slice-link-items.ensures) in
    let all : c.loop-link.link-index ≡ length w.links = omega (arith, c.loop-link-test.false, c.loop-link.auto.link-index-end, shown) in
    subst (λ (n : ℕ). Adds (ArcsBelow w.links (IsLinkArc c.args.circuit.now c.args.phase.now c.args.least.now w) n) c.args.graph.now.items c.loop-link.graph.items) all c.loop-link.invariant
