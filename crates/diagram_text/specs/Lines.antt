-- Nodes of a store by their numbers.
use Rattle.std.specs.Prelude.{ℕ, ◌≤◌}
use Rattle.bdd_core.specs.Diagram.{node_at, top}
use Rattle.bdd_core.specs.Store.{Diagrams, IsLive}
use Rattle.bdd_core.specs.declared.handle.H.{H}
use Rattle.diagram_lists.specs.Listed.{number_at}
use Rattle.diagram_lists.specs.declared.list.NodeList.{NodeList}
use Rattle.model_writer.specs.declared.model.NodeLine.{NodeLine}

-- a live handle of a node
abbrev pub IsInner : Diagrams → H → Type 0
IsInner d h = (2 ≤ h.0) × IsLive d h

-- its variable, and the numbers of its branches
abbrev pub line_at : Diagrams → NodeList → H → NodeLine
line_at d list h = record { variable = top d.nodes h.0; low = number_at list (node_at d.nodes h.0).lo; high = number_at list (node_at d.nodes h.0).hi }

-- the number of a handle
abbrev pub root_at : NodeList → H → ℕ
root_at list h = number_at list h.0
