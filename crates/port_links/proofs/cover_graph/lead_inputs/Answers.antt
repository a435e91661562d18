use Rattle.std.proofs.Common.{arith, []}
use Rattle.channel_parts.proofs.AddsLaws.{none_adds}
use Rattle.port_links.proofs.CoverLaws.{input_turn}
use Rattle.port_links.specs.CoverGraphs.{IsInputArc}
use Rattle.vrt_model.proofs.Members.{at_none}
use Rattle.port_links.proofs.cover_graph.lead_inputs.Goals as goal

pub loop-input-init : goal.loop-input-init
loop-input-init c = none_adds (IsInputArc [] c.args.output) c.args.graph.now.items (λ f t arc. at_none arc.0.0 f arc.0.1)

pub loop-input-preserved : goal.loop-input-preserved
loop-input-preserved c =
    input_turn c.args.inputs.now c.args.output c.loop-input.input-index c.args.graph.now.items c.loop-input.graph.items c.lead.new.graph.items (omega arith) c.loop-input.invariant
    c.in_ok-lead.ensures
