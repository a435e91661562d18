-- The circuits between the flat circuit of a cell and its checked one: instance by instance, one more may be left whole.
use Rattle.std.specs.Prelude.{◌≡◌, ◌↔◌, ℕ, suc, ◌<◌, ◌≤◌, Bool, true, false, List, length}
use Rattle.vrt_model.specs.Checked.{IsCircuitWith, before, with_one}
use Rattle.vrt_model.specs.Cut.{Cut}
use Rattle.vrt_model.specs.FlatCircuit.{flat_circuit_of}
use Rattle.vrt_model.specs.Unrolled.{Top, all_places}
use Rattle.vrt_model.specs.declared.blif.Blif.{Blif}
use Rattle.vrt_model.specs.declared.circuit.Circuit.{Circuit}
use Rattle.vrt_model.specs.declared.whole.CellFacts.{CellFacts}

-- ---- one step

-- The law: the instances before one that is chosen, and that one, are the instances before the next.
abbrev pub OneMoreIsNext : Type 0
OneMoreIsNext = (cut : Cut) (i : ℕ) → cut.choice i ≡ true → with_one (before cut i) i ≡ before cut (suc i)

-- The law: where it is not chosen, nothing changes.
abbrev pub NoneMoreIsSame : Type 0
NoneMoreIsSame = (cut : Cut) (i : ℕ) → cut.choice i ≡ false → before cut (suc i) ≡ before cut i

-- ---- the ends of the chain

-- The law: before the first instance it is the flat circuit, and nothing else.
abbrev pub ChainBeginsFlat : Type 0
ChainBeginsFlat =
    (cut : Cut) (blif : Blif) (facts : List CellFacts) (c : Circuit)
    → IsCircuitWith (before cut 0) blif facts c ↔ (c ≡ flat_circuit_of cut.top)

-- The law: what is chosen past the last instance does not count.
abbrev pub PlacesAloneCount : Type 0
PlacesAloneCount =
    (t : Top) (one other : ℕ → Bool) (blif : Blif) (facts : List CellFacts) (c : Circuit)
    → ((i : ℕ) → suc i < length (all_places t) → one i ≡ other i)
    → IsCircuitWith (record { top = t; choice = one }) blif facts c → IsCircuitWith (record { top = t; choice = other }) blif facts c

-- The law: so behind the last instance it is the circuit with all that are chosen.
abbrev pub ChainEndsChecked : Type 0
ChainEndsChecked =
    (cut : Cut) (blif : Blif) (facts : List CellFacts) (c : Circuit) (n : ℕ)
    → length (all_places cut.top) ≤ suc n → IsCircuitWith (before cut n) blif facts c ↔ IsCircuitWith cut blif facts c

-- The law: where the circuit with all that are chosen is there, each one of the chain is.
abbrev pub ChainIsThere : Type 0
ChainIsThere =
    (cut : Cut) (blif : Blif) (facts : List CellFacts) (c : Circuit) (i : ℕ)
    → IsCircuitWith cut blif facts c → (other : Circuit) × IsCircuitWith (before cut i) blif facts other
