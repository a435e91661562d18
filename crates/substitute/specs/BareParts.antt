-- The channel-connected parts of a circuit without keepers in several phases.
use Rattle.std.specs.Prelude.{◌≡◌, ℕ, suc, ◌+◌, true, List, length, Option, Some, None, Vec}
use Rattle.std.specs.declared.alloc.Global.{Global}
use Rattle.channel_parts.specs.PartLists.{IsPartList}
use Rattle.channel_parts.specs.declared.part.Parts.{Parts}
use Rattle.vrt_model.specs.Known.{HasArc}
use Rattle.vrt_model.specs.Lists.{At}
use Rattle.vrt_model.specs.Unsupported.{IsAcyclic}
use Rattle.vrt_model.specs.declared.circuit.Circuit.{Circuit}
use Rattle.vrt_model.specs.declared.rules.Phase.{Phase}
use Rattle.whole_circuits.specs.Acyclic.{AreAcyclic}
use Rattle.substitute.specs.declared.checked_circuit.CheckedCircuit.{CheckedCircuit}

-- those of each phase from one on, those of the last phase first
pub record AreBareFrom (c : Circuit) (phases : List Phase) (from : ℕ) (parts : List Parts) : Type 0 where
  pub count : length parts + from ≡ length phases
  pub each : (i p : ℕ) (phase : Phase) (own : Parts) → At parts i own → At phases p phase → i + suc p ≡ length phases → IsPartList c phase true own

-- those of all phases
abbrev pub AreBareParts : Circuit → List Phase → List Parts → Type 0
AreBareParts c phases parts = AreBareFrom c phases 0 parts

-- those of a phase, none where the arcs lead around
abbrev pub BareGive : Circuit → Phase → Option Parts → Type 0
BareGive c phase None = ¬ IsAcyclic (HasArc c phase)
BareGive c phase (Some parts) = IsPartList c phase true parts

-- none where they do in some phase
abbrev pub AllBareGive : Circuit → List Phase → Option (Vec Parts Global) → Type 0
AllBareGive c phases None = ¬ AreAcyclic c phases
AllBareGive c phases (Some parts) = AreBareParts c phases parts.items

-- a checked circuit has its parts beside it, where they are kept
abbrev pub HasPartsIn : Circuit → List Phase → Option (Vec Parts Global) → Type 0
HasPartsIn c phases None = Unit {0}
HasPartsIn c phases (Some parts) = AreBareParts c phases parts.items

abbrev pub HasParts : List Phase → CheckedCircuit → Type 0
HasParts phases x = HasPartsIn x.circuit phases x.parts
