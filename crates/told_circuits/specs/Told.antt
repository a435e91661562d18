-- What can be told of a circuit in which whole instances may stand, in each phase.
use Rattle.std.specs.Prelude.{◌≡◌, ℕ, ◌↔◌, Bool, true, Option}
use Rattle.known_nets.specs.KnownTables.{IsKnownTable}
use Rattle.known_nets.specs.Wired.{IsWired}
use Rattle.vrt_model.specs.Known.{HasRankArc, IsKnown, IsTogether}
use Rattle.vrt_model.specs.declared.circuit.Circuit.{Circuit}
use Rattle.vrt_model.specs.declared.rules.Phase.{Phase}

-- a test of numbers, two by two, says exactly where a relation holds
abbrev pub HasTest : (ℕ → ℕ → Type 0) → Type 0
HasTest R = (test : ℕ → ℕ → Bool) × ((n m : ℕ) → (test n m ≡ true) ↔ R n m)

-- The law: a table has exactly the known nets, with their bits.
abbrev pub KnownNetsHaveTable : Type 0
KnownNetsHaveTable = (c : Circuit) (phase : Phase) → IsWired c → (known : ℕ → Option Bool) × IsKnownTable c phase known

-- The law: so a test says which nets are known.
abbrev pub KnownNetsHaveTest : Type 0
KnownNetsHaveTest =
    (c : Circuit) (phase : Phase) → IsWired c → (known : ℕ → Bool) × ((n : ℕ) → (known n ≡ true) ↔ ((v : Bool) × IsKnown c phase n v))

-- The law: one says which nets are in one part of the bare or of the whole circuit.
abbrev pub PartsHaveTest : Type 0
PartsHaveTest = (c : Circuit) (phase : Phase) (which : Bool) → IsWired c → HasTest (IsTogether c phase which)

-- The law: and one which arcs count for ranks.
abbrev pub RankArcsHaveTest : Type 0
RankArcsHaveTest = (c : Circuit) (phase : Phase) → IsWired c → HasTest (HasRankArc c phase)
