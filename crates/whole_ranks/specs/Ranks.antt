-- Ranks of the nets of a circuit that may have whole instances.
use Rattle.std.specs.Prelude.{◌≡◌, ℕ}
use Rattle.known_nets.specs.Wired.{IsWired}
use Rattle.vrt_model.specs.Known.{HasArc, IsRanking, IsTogether}
use Rattle.vrt_model.specs.Reading.{bare}
use Rattle.vrt_model.specs.Unsupported.{IsAcyclic}
use Rattle.vrt_model.specs.declared.circuit.Circuit.{Circuit}
use Rattle.vrt_model.specs.declared.rules.Phase.{Phase}

-- The law: where the arcs have no cycle, the nets have ranks.
abbrev pub AcyclicNetsHaveRanks : Type 0
AcyclicNetsHaveRanks = (c : Circuit) (phase : Phase) → IsWired c → IsAcyclic (HasArc c phase) → (rank : ℕ → ℕ) × IsRanking c phase rank

-- The law: where the nets have ranks, the arcs have no cycle.
abbrev pub RankedNetsAreAcyclic : Type 0
RankedNetsAreAcyclic = (c : Circuit) (phase : Phase) (rank : ℕ → ℕ) → IsRanking c phase rank → IsAcyclic (HasArc c phase)

-- The law: the nets of a part have one rank.
abbrev pub PartsHaveOneRank : Type 0
PartsHaveOneRank =
    (c : Circuit) (phase : Phase) (rank : ℕ → ℕ) → IsRanking c phase rank → (n m : ℕ) → IsTogether c phase bare n m → rank n ≡ rank m
