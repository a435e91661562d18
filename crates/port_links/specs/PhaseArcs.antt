-- The graph of nets and parts of a circuit in a phase, and marks at what chains lead from.
use Rattle.std.specs.Prelude.{◌≡◌, ℕ, ◌+◌, ◌<◌, ◌↔◌, true, List, Bool, length, slice_index}
use Rattle.graphs.specs.Graphs.{ArcIn, AreInside}
use Rattle.port_links.specs.declared.arcs.PhaseArcs.{PhaseArcs}
use Rattle.vrt_model.specs.Known.{HasArc, IsPlain, IsTogether}
use Rattle.vrt_model.specs.Lists.{mark_at}
use Rattle.vrt_model.specs.Reading.{bare}
use Rattle.vrt_model.specs.WholeInstances.{IsChain}
use Rattle.vrt_model.specs.declared.circuit.Circuit.{Circuit}
use Rattle.vrt_model.specs.declared.rules.Phase.{Phase}

-- the number of the part of a net, behind those of the nets
abbrev pub part_of : List ℕ → ℕ → ℕ
part_of least n = length least + slice_index least n

-- a chain of arcs leads from a net of the part of one net to another
abbrev pub IsPartChain : Circuit → Phase → ℕ → ℕ → Type 0
IsPartChain c phase from to = (m : ℕ) × IsTogether c phase bare from m × IsChain (HasArc c phase) m to

-- chains of the graph to the part of a plain net lead from a net, and from the part of a plain net, exactly where chains of
-- arcs lead to the net from that net, and from a net of that part
pub record AreArcs (c : Circuit) (phase : Phase) (least : List ℕ) (graph : List (List ℕ)) : Type 0 where
  pub count : length least ≡ length c.nets
  pub inside : AreInside graph
  pub nets : (from to : ℕ) → from < length c.nets → IsPlain c to → IsChain (ArcIn graph) from (part_of least to) ↔ IsChain (HasArc c phase) from to
  pub parts : (from to : ℕ) → IsPlain c from → IsPlain c to → IsChain (ArcIn graph) (part_of least from) (part_of least to) ↔ IsPartChain c phase from to

abbrev pub ArePhaseArcs : Circuit → Phase → PhaseArcs → Type 0
ArePhaseArcs c phase arcs = AreArcs c phase arcs.least.items arcs.graph.items

-- the marks are at exactly the nets from which chains of arcs lead to a net, and at the parts of which they lead from a net
pub record AreChainMarks (c : Circuit) (phase : Phase) (least : List ℕ) (to : ℕ) (marks : List Bool) : Type 0 where
  pub nets : (from : ℕ) → from < length c.nets → (mark_at marks from ≡ true) ↔ IsChain (HasArc c phase) from to
  pub parts : (from : ℕ) → IsPlain c from → (mark_at marks (part_of least from) ≡ true) ↔ IsPartChain c phase from to
