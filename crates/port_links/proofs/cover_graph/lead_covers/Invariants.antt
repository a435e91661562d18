use Rattle.std.proofs.Common.{take}
use Rattle.known_nets.specs.Placed.{Adds}
use Rattle.port_links.specs.CoverGraphs.{IsCoverArc}
use Rattle.port_links.proofs.cover_graph.lead_covers.Given as goal

abbrev pub invariant-loop-cover : goal.invariant-loop-cover
invariant-loop-cover l = Adds (IsCoverArc (take l.cover-index l.covers)) l.initial.graph.items l.graph.items
