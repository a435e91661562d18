-- Circuits with determined whole instances, whose nets have ranks, have one solution.
use Rattle.std.specs.Prelude.{ℕ, Bool}
use Rattle.channel_parts.specs.OneSolution.{AreDetermined, AreObserved, HasDrives, HasOneSolution, KnownStand}
use Rattle.known_nets.specs.Wired.{AreOutputsPlain}
use Rattle.vrt_model.specs.Known.{HasArc, IsRanking}
use Rattle.vrt_model.specs.Networks.{HasRanges}
use Rattle.vrt_model.specs.State.{Setting}
use Rattle.vrt_model.specs.Unsupported.{IsAcyclic}
use Rattle.vrt_model.specs.declared.circuit.Circuit.{Circuit}
use Rattle.vrt_model.specs.declared.rules.Phase.{Phase}

-- The law: known nets stand, as the law of one solution asks.
abbrev pub KnownNetsStand : Type 0
KnownNetsStand =
    (c : Circuit) (phase : Phase) (observed : ℕ → Bool) (setting : Setting)
    → HasRanges c → AreOutputsPlain c → AreObserved c observed → KnownStand c phase observed setting

-- The law: the bit of each output pin depends on observed nets of lower rank alone.
abbrev pub RankedNetsHaveDrives : Type 0
RankedNetsHaveDrives =
    (c : Circuit) (phase : Phase) (inputs observed : ℕ → Bool) (rank : ℕ → ℕ)
    → AreDetermined c phase observed → IsRanking c phase rank
    → (driven : (ℕ → Bool) → ℕ → Bool) × HasDrives c phase inputs observed rank driven

-- The law: so there is exactly one solution.
abbrev pub RankedNetsHaveOneSolution : Type 0
RankedNetsHaveOneSolution =
    (c : Circuit) (phase : Phase) (observed : ℕ → Bool) (setting : Setting) (rank : ℕ → ℕ)
    → HasRanges c → AreObserved c observed → AreDetermined c phase observed → IsRanking c phase rank
    → HasOneSolution c phase observed setting

-- The law: as there is where the arcs have no cycle.
abbrev pub AcyclicNetsHaveOneSolution : Type 0
AcyclicNetsHaveOneSolution =
    (c : Circuit) (phase : Phase) (observed : ℕ → Bool) (setting : Setting)
    → HasRanges c → AreObserved c observed → AreDetermined c phase observed → IsAcyclic (HasArc c phase)
    → HasOneSolution c phase observed setting
