-- Faults of a circuit with a cell in it, and of the circuit with this instance whole.
use Rattle.std.specs.Prelude.{◌≡◌, ◌↔◌, ℕ, Bool, List, Option}
use Rattle.replaced_cells.specs.OneMoreWhole.{AreSolvedAlike, IsOneMoreWhole, all_bits}
use Rattle.vrt_model.specs.Assignment.{Assignment}
use Rattle.vrt_model.specs.Checked.{with_circuit}
use Rattle.vrt_model.specs.Comparison.{Comparison, is_observed}
use Rattle.vrt_model.specs.Faults.{IsPrintedWith, Stands}
use Rattle.vrt_model.specs.Lists.{At}
use Rattle.vrt_model.specs.Reading.{Partial}
use Rattle.vrt_model.specs.Solution.{SameObserved}
use Rattle.vrt_model.specs.State.{Setting, State}
use Rattle.vrt_model.specs.declared.circuit.Circuit.{Circuit}
use Rattle.vrt_model.specs.declared.circuit.FlatInstance.{FlatInstance}
use Rattle.vrt_model.specs.declared.verdict.FaultKind.{FaultKind}
use Rattle.vrt_model.specs.declared.verdict.FaultKind.TheVariants.{Fight, FightKept, Float, Unsettled, Constraint, Differs, Next, Apart, Enter}

-- no fault of any kind stands
abbrev pub IsFaultless : Comparison → ℕ → Setting → Partial → Assignment → Type 0
IsFaultless k phase setting a g = (kind : FaultKind) (at : ℕ) → ¬ Stands k phase setting a g kind at

-- The law: a fault that stands by one partial assignment stands by each that is the same on the observed nets.
abbrev pub ObservedBitsShowFaults : Type 0
ObservedBitsShowFaults =
    (k : Comparison) (phase : ℕ) (setting : Setting) (a b : Partial) (g : Assignment) (kind : FaultKind) (at : ℕ)
    → SameObserved (is_observed k phase) a b → Stands k phase setting a g kind at → Stands k phase setting b g kind at

-- ---- both circuits

-- one place in two circuits: the same net, port of the cell, or instance
abbrev pub IsSameIn : Circuit → Circuit → FaultKind → ℕ → ℕ → Type 0
IsSameIn c d Constraint m n = (i : FlatInstance) × At c.instances m i × At d.instances n i
IsSameIn c d Fight m n = m ≡ n
IsSameIn c d FightKept m n = m ≡ n
IsSameIn c d Float m n = m ≡ n
IsSameIn c d Unsettled m n = m ≡ n
IsSameIn c d Differs m n = m ≡ n
IsSameIn c d Next m n = m ≡ n
IsSameIn c d Apart m n = m ≡ n
IsSameIn c d Enter m n = m ≡ n

-- The law: where bits are solutions of both circuits, a fault that stands with the instance whole stands in the circuit, at the same place.
abbrev pub FaultsStandBelow : Type 0
FaultsStandBelow =
    (k q : Comparison) (phase : ℕ) (whole_circuit : Circuit) (at place fresh : ℕ → ℕ) (remaining compared exposed : ℕ → Bool) (drive : ℕ → ℕ)
    (setting : Setting) (s r : State) (bits : List Bool) (g : Assignment)
    → IsOneMoreWhole k q phase whole_circuit at place fresh remaining compared exposed drive
    → AreSolvedAlike k q phase whole_circuit at place fresh remaining setting s r bits
    → (kind : FaultKind) (n : ℕ) → Stands (with_circuit k whole_circuit) phase setting (all_bits r.reading) g kind n
    → (m : ℕ) × IsSameIn k.circuit whole_circuit kind m n × Stands k phase setting (all_bits s.reading) g kind m

-- The law: and it is printed with the same values.
abbrev pub PrintedValuesAreSame : Type 0
PrintedValuesAreSame =
    (k q : Comparison) (phase : ℕ) (whole_circuit : Circuit) (at place fresh : ℕ → ℕ) (remaining compared exposed : ℕ → Bool) (drive : ℕ → ℕ)
    (setting : Setting) (s r : State) (bits : List Bool) (g : Assignment)
    → IsOneMoreWhole k q phase whole_circuit at place fresh remaining compared exposed drive
    → AreSolvedAlike k q phase whole_circuit at place fresh remaining setting s r bits
    → (kind : FaultKind) (m n : ℕ) → IsSameIn k.circuit whole_circuit kind m n
    → Stands (with_circuit k whole_circuit) phase setting (all_bits r.reading) g kind n
    → (circuit wanted : Option Bool) → IsPrintedWith (with_circuit k whole_circuit) phase setting (all_bits r.reading) g kind n circuit wanted
    → IsPrintedWith k phase setting (all_bits s.reading) g kind m circuit wanted

-- The law: where bits are solutions of both circuits and of the cell, which is equal, nothing is wrong with them in the one circuit
-- exactly where nothing is in the other.
abbrev pub FaultsAreShared : Type 0
FaultsAreShared =
    (k q : Comparison) (phase : ℕ) (whole_circuit : Circuit) (at place fresh : ℕ → ℕ) (remaining compared exposed : ℕ → Bool) (drive : ℕ → ℕ)
    (setting : Setting) (s r : State) (bits : List Bool) (g : Assignment)
    → IsOneMoreWhole k q phase whole_circuit at place fresh remaining compared exposed drive
    → AreSolvedAlike k q phase whole_circuit at place fresh remaining setting s r bits
    → IsFaultless k phase setting (all_bits s.reading) g ↔ IsFaultless (with_circuit k whole_circuit) phase setting (all_bits r.reading) g
