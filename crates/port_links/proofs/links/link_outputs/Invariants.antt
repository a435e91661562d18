use Rattle.std.proofs.Common.{take}
use Rattle.graphs.specs.Graphs.{HasArcs}
use Rattle.port_links.specs.Linked.{AddsLinks, IsLinkTo}
use Rattle.port_links.specs.PhaseArcs.{ArePhaseArcs}
use Rattle.vrt_model.specs.WholeInstances.{CoverArc}
use Rattle.vrt_model.specs.declared.flat_model.FlatModel.{FlatModel}
use Rattle.vrt_model.specs.declared.rules.Phase.{Phase}
use Rattle.port_links.proofs.links.link_outputs.Given as goal

-- the links to the outputs so far are added
abbrev pub invariant-loop-at : goal.invariant-loop-at
invariant-loop-at l =
    (phase : Phase) (model : FlatModel) → ArePhaseArcs l.circuit phase l.arcs → HasArcs (CoverArc model) l.covers
    → AddsLinks (IsLinkTo l.circuit phase model l.named l.ports (take l.at l.ports)) l.initial.links l.links
