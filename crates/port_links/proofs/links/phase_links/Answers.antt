use Rattle.std.proofs.Common.{List, ℕ, subst, sym}
use Rattle.graphs.specs.Graphs.{AreInside, HasArcs}
use Rattle.port_links.proofs.LinkLaws.{are_links}
use Rattle.vrt_model.specs.WholeInstances.{CoverArc}
use Rattle.port_links.proofs.links.phase_links.Goals as goal

pub link_outputs-requires-clause-inside : goal.link_outputs-requires-clause-inside
link_outputs-requires-clause-inside c = c.in_ok-arcs.ensures.inside

pub link_outputs-requires-clause-covers : goal.link_outputs-requires-clause-covers
link_outputs-requires-clause-covers c = subst AreInside (sym c.as_slice-covers.ensures.value) c.in_ok-table.ensures.inside

pub returns : goal.returns
returns c =
    let model = c.args.model.now in
    are_links c.args.circuit.now c.args.phase.now model c.args.named.now c.args.ports.now _ c.link_outputs.new.links c.new-links.ensures
    (c.in_ok-link_outputs.ensures c.args.phase.now model c.in_ok-arcs.ensures
    (subst (λ (xs : List (List ℕ)). HasArcs (CoverArc model) xs) (sym c.as_slice-covers.ensures.value) c.in_ok-table.ensures.arcs))
