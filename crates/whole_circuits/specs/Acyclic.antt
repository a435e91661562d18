-- Circuits whose arcs have no cycle.
use Rattle.std.specs.Prelude.{ℕ, List}
use Rattle.vrt_model.specs.Known.{HasArc}
use Rattle.vrt_model.specs.Lists.{At}
use Rattle.vrt_model.specs.Unsupported.{IsAcyclic}
use Rattle.vrt_model.specs.declared.circuit.Circuit.{Circuit}
use Rattle.vrt_model.specs.declared.rules.Phase.{Phase}

-- the arcs have no cycle in any of these phases
abbrev pub AreAcyclic : Circuit → List Phase → Type 0
AreAcyclic c phases = (i : ℕ) (phase : Phase) → At phases i phase → IsAcyclic (HasArc c phase)
