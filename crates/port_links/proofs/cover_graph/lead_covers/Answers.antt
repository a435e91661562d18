use Rattle.std.proofs.Common.{[], refl, subst}
use Rattle.known_nets.specs.Placed.{Adds}
use Rattle.channel_parts.proofs.AddsLaws.{none_adds}
use Rattle.port_links.proofs.CoverLaws.{cover_turn}
use Rattle.port_links.specs.CoverGraphs.{IsCoverArc, IsInputArc}
use Rattle.vrt_model.proofs.Lists.{item_at}
use Rattle.vrt_model.proofs.Members.{at_none}
use Rattle.port_links.proofs.cover_graph.lead_covers.Goals as goal

pub loop-cover-init : goal.loop-cover-init
loop-cover-init c = none_adds (IsCoverArc []) c.args.graph.now.items (λ f t arc. at_none arc.1.0 arc.0 arc.1.1)

pub loop-cover-preserved : goal.loop-cover-preserved
loop-cover-preserved c =
    let covers = c.args.covers.now in
    let at = c.loop-cover.cover-index in
    let cover = c.cover-item.result in
    let there = item_at covers covers at cover refl c.loop-cover-test.true c.cover-item.is in
    cover_turn covers cover at c.args.graph.now.items c.loop-cover.graph.items c.lead_inputs.new.graph.items there c.loop-cover.invariant
    (subst (λ xs. Adds (IsInputArc xs cover.output) c.loop-cover.graph.items c.lead_inputs.new.graph.items) c.as_slice.ensures c.in_ok-lead_inputs.ensures)
