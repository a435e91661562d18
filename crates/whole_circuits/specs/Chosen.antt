-- Instances that are chosen one by one.
use Rattle.std.specs.Prelude.{◌≡◌, ◌↔◌, ℕ, suc, ◌+◌, ◌<◌, true, false, List, length}
use Rattle.checked_chain.specs.Arcs.{AreWholeOutputsApart}
use Rattle.whole_circuits.specs.Steps.{Passes}
use Rattle.vrt_model.specs.Checked.{IsChoice, IsCircuitWith, MayBeWhole, before, with_one}
use Rattle.vrt_model.specs.Cut.{Cut, NumberedPlace, is_inside_whole, numbered_places}
use Rattle.vrt_model.specs.FlatCircuit.{flat_circuit_of}
use Rattle.vrt_model.specs.Inputs.{AreRules}
use Rattle.vrt_model.specs.Lists.{At}
use Rattle.vrt_model.specs.PairedPorts.{Model, paired_model}
use Rattle.vrt_model.specs.Unrolled.{all_places}
use Rattle.vrt_model.specs.declared.blif.Blif.{Blif}
use Rattle.vrt_model.specs.declared.circuit.Circuit.{Circuit}
use Rattle.vrt_model.specs.declared.whole.CellFacts.{CellFacts}

-- The law: an instance may be left whole besides those before it exactly where it passes the tests.
abbrev pub TestsTell : Type 0
TestsTell =
    (cut : Cut) (blif : Blif) (facts : List CellFacts) (i : ℕ) (p : NumberedPlace) (m : ℕ) (flat with_it : Circuit)
    → At (numbered_places cut.top) (suc i) p → paired_model cut.top.design blif cut.top.rules p.at.cell ≡ Model m → AreRules cut.top.rules
    → flat ≡ flat_circuit_of cut.top → IsCircuitWith (with_one (before cut i) i) blif facts with_it → AreWholeOutputsApart (with_one (before cut i) i) blif
    → Passes cut blif facts i p m flat with_it ↔ MayBeWhole (before cut i) blif facts i p m

-- the instance at a place is chosen exactly where it is not inside a whole one, and may be left whole besides those before it
abbrev pub IsDecided : Cut → Blif → List CellFacts → ℕ → Type 0
IsDecided cut blif facts i =
    (p : NumberedPlace) → At (numbered_places cut.top) (suc i) p
    → (cut.choice i ≡ true) ↔ ((is_inside_whole (before cut i) p.at ≡ false) × ((m : ℕ) × MayBeWhole (before cut i) blif facts i p m))

-- so of the instances at the places below a number
abbrev pub AreDecided : Cut → Blif → List CellFacts → ℕ → Type 0
AreDecided cut blif facts n = (i : ℕ) → suc i < n → IsDecided cut blif facts i

-- The law: they stay so where the choice changes further on alone, and one more is decided.
abbrev pub DecidedGrow : Type 0
DecidedGrow =
    (cut other : Cut) (blif : Blif) (facts : List CellFacts) (i : ℕ)
    → other.top ≡ cut.top → ((j : ℕ) → j < i → other.choice j ≡ cut.choice j)
    → AreDecided cut blif facts (suc i) → IsDecided other blif facts i → AreDecided other blif facts (suc i + 1)

-- The law: where all are decided the choice is that of the definition.
abbrev pub AllAreDecided : Type 0
AllAreDecided = (cut : Cut) (blif : Blif) (facts : List CellFacts) → AreDecided cut blif facts (length (all_places cut.top)) → IsChoice cut blif facts
