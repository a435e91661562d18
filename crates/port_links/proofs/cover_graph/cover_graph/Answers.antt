use Rattle.std.proofs.Common.{subst, ◌∙◌}
use Rattle.known_nets.specs.Placed.{Adds}
use Rattle.port_links.proofs.CoverLaws.{covers_inside, has_cover_arcs}
use Rattle.port_links.specs.CoverGraphs.{IsCoverArc}
use Rattle.port_links.proofs.cover_graph.cover_graph.Goals as goal

pub returns-clause-len : goal.returns-clause-len
returns-clause-len c = c.in_ok-lead_covers.ensures.count ∙ c.in_ok-graph.ensures.len ∙ c.len.ensures

pub returns-clause-arcs : goal.returns-clause-arcs
returns-clause-arcs c =
    has_cover_arcs c.args.model.now c.in_ok-graph.graph.items c.lead_covers.new.graph.items c.requires (c.in_ok-graph.ensures.len ∙ c.len.ensures) c.in_ok-graph.ensures.empty
    (subst (λ xs. Adds (IsCoverArc xs) c.in_ok-graph.graph.items c.lead_covers.new.graph.items) c.as_slice.ensures c.in_ok-lead_covers.ensures)

pub returns-clause-inside : goal.returns-clause-inside
returns-clause-inside c =
    covers_inside c.args.model.now c.lead_covers.new.graph.items c.requires (c.in_ok-lead_covers.ensures.count ∙ c.in_ok-graph.ensures.len ∙ c.len.ensures) (returns-clause-arcs c)
