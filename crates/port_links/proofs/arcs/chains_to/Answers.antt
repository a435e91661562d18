use Rattle.std.proofs.Common.{Bool, List, ℕ, ap, subst, sym, ◌∙◌}
use Rattle.graphs.specs.Graphs.{AreInside}
use Rattle.port_links.proofs.ArcLaws.{chain_marks, no_chain_marks}
use Rattle.port_links.specs.PhaseArcs.{AreChainMarks, part_of}
use Rattle.port_links.specs.Reached.{AreReaching}
use Rattle.port_links.proofs.arcs.chains_to.Goals as goal

pub returns-then-not-is_plain : goal.returns-then-not-is_plain
returns-then-not-is_plain c phase arcs =
    let least = c.args.arcs.now.least.items in
    subst (λ (xs : List Bool). AreChainMarks c.args.circuit.now phase least c.args.to xs) (sym c.new-none.ensures.items)
    (no_chain_marks c.args.circuit.now phase least c.args.to c.requires.flat (sym c.is_plain.ensures ∙ c.if-not-is_plain.true))

pub reaching-requires : goal.reaching-requires
reaching-requires c = subst AreInside (sym c.as_slice-graph.ensures.value) c.requires.inside

pub returns : goal.returns
returns c phase arcs =
    let least = c.args.arcs.now.least.items in
    let to = c.args.to in
    let marks = c.in_ok-marks.marks.items in
    let part = c.in_ok-part.ensures ∙ ap (λ (xs : List ℕ). part_of xs to) c.as_slice-least.ensures.value in
    let reach : AreReaching c.as_slice-graph.result.now (part_of least to) marks = subst (λ (k : ℕ). AreReaching c.as_slice-graph.result.now k marks) part c.in_ok-marks.ensures in
    chain_marks c.args.circuit.now phase least c.args.arcs.now.graph.items to marks (sym c.is_plain.ensures ∙ c.if-not-is_plain.false)
    (subst (λ (xs : List (List ℕ)). AreReaching xs (part_of least to) marks) c.as_slice-graph.ensures.value reach) arcs
