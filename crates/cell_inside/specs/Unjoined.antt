-- Outputs of a cell that stand in different parts of its circuit.
use Rattle.std.specs.Prelude.{◌≡◌, ℕ, Bool, true}
use Rattle.cell_inside.specs.Placed.{alone}
use Rattle.cell_inside.specs.Replaced.{AreUnjoined}
use Rattle.vrt_model.specs.Known.{IsKnown, IsTogether, is_plain_at}
use Rattle.vrt_model.specs.Lists.{Among}
use Rattle.vrt_model.specs.Reading.{devices_of}
use Rattle.vrt_model.specs.State.{State}
use Rattle.vrt_model.specs.declared.circuit.Circuit.{Circuit}
use Rattle.vrt_model.specs.declared.circuit.Device.{Device}
use Rattle.vrt_model.specs.declared.rules.Phase.{Phase}

-- no two exposed outputs are in one part of the cell, bare or kept, but where they are one net outside
abbrev pub AreInDifferentParts : Circuit → Phase → Bool → (ℕ → ℕ) → (ℕ → Bool) → Type 0
AreInDifferentParts cell phase bare at exposed = (m n : ℕ) → exposed m ≡ true → exposed n ≡ true → IsTogether cell phase bare m n → at m ≡ at n

-- the state gives each gate of the cell that is known in the phase its known bit
abbrev pub HasKnownGates : Circuit → Phase → Bool → (ℕ → ℕ) → State → Type 0
HasKnownGates cell phase bare at s = (d : Device) (b : Bool) → Among (devices_of bare cell) d → IsKnown cell phase d.gate.0 b → s.reading (at d.gate.0) ≡ b

-- The law: then conducting devices of the cell join no two exposed outputs.
abbrev pub PartedOutputsAreUnjoined : Type 0
PartedOutputsAreUnjoined =
    (cell : Circuit) (phase : Phase) (bare : Bool) (at : ℕ → ℕ) (exposed : ℕ → Bool) (s : State)
    → HasKnownGates cell phase bare at s → AreInDifferentParts cell phase bare at exposed → AreUnjoined (alone cell bare at s) at (is_plain_at cell) exposed
