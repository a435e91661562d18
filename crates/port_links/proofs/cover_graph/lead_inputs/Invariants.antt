use Rattle.std.proofs.Common.{take}
use Rattle.known_nets.specs.Placed.{Adds}
use Rattle.port_links.specs.CoverGraphs.{IsInputArc}
use Rattle.port_links.proofs.cover_graph.lead_inputs.Given as goal

abbrev pub invariant-loop-input : goal.invariant-loop-input
invariant-loop-input l = Adds (IsInputArc (take l.input-index l.inputs) l.output) l.initial.graph.items l.graph.items
