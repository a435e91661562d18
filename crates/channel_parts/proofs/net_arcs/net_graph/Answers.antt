use Rattle.std.proofs.Common.{◌∙◌}
use Rattle.channel_parts.proofs.NetGraphLaws.{adds_graph}
use Rattle.channel_parts.proofs.net_arcs.net_graph.Goals as goal

pub returns : goal.returns
returns c =
    adds_graph c.args.circuit.now c.args.phase.now c.args.known.now c.args.least.now c.in_ok-graph.graph.items c.lead_nets.new.graph.items c.lead_devices.new.graph.items c.lead_wholes.new.graph.items
    (c.in_ok-graph.ensures.len ∙ c.in_ok-count.ensures) c.in_ok-graph.ensures.empty c.in_ok-lead_nets.ensures c.in_ok-lead_devices.ensures c.in_ok-lead_wholes.ensures
