-- When an instance is rightly chosen or left out.
use Rattle.std.specs.Prelude.{◌≡◌, ◌↔◌, ℕ, suc, Bool, true, false, List, ◌++◌}
use Rattle.checked_chain.specs.Arcs.{AreWholeOutputsApart}
use Rattle.whole_cells.specs.Entries.{IsAllowed}
use Rattle.whole_circuits.specs.Acyclic.{AreAcyclic}
use Rattle.whole_circuits.specs.Outputs.{AreOpen, own_outputs}
use Rattle.vrt_model.specs.Checked.{IsCircuitWith, with_one}
use Rattle.vrt_model.specs.CheckedParts.{checked_devices}
use Rattle.vrt_model.specs.Cut.{Cut, NumberedPlace, is_inside_whole, numbered_places}
use Rattle.vrt_model.specs.FlatCircuit.{flat_circuit_of}
use Rattle.vrt_model.specs.Inputs.{AreRules}
use Rattle.vrt_model.specs.Lists.{At}
use Rattle.vrt_model.specs.PairedPorts.{Model, paired_model}
use Rattle.vrt_model.specs.Unsupported.{comparison_of}
use Rattle.vrt_model.specs.WholeInstances.{all_outputs, driven_pins}
use Rattle.vrt_model.specs.declared.blif.Blif.{Blif}
use Rattle.vrt_model.specs.declared.circuit.Circuit.{Circuit}
use Rattle.vrt_model.specs.declared.whole.CellFacts.{CellFacts}
use Rattle.substitute.specs.Chosen.{IsRightly, NoneFrom}

-- the instance of number i besides those of a choice, with the number of the model with which its cell pairs, and the flat circuit
pub record IsNext (cut : Cut) (blif : Blif) (i : ℕ) (p : NumberedPlace) (m : ℕ) (flat : Circuit) : Type 0 where
  pub none : NoneFrom cut i
  pub place : At (numbered_places cut.top) (suc i) p
  pub paired : paired_model cut.top.design blif cut.top.rules p.at.cell ≡ Model m
  pub flat_is : flat ≡ flat_circuit_of cut.top

-- its outputs are open where it is whole too
abbrev pub AreItsOutputsOpen : Cut → Blif → List CellFacts → ℕ → NumberedPlace → ℕ → Circuit → Type 0
AreItsOutputsOpen cut blif facts i p m flat =
    AreOpen flat (checked_devices (with_one cut i))
    (all_outputs cut blif facts ++ own_outputs p.number (driven_pins facts (comparison_of cut.top.design blif cut.top.rules p.at.cell m) p.at))
    (own_outputs p.number (driven_pins facts (comparison_of cut.top.design blif cut.top.rules p.at.cell m) p.at))

-- The law: an instance that is inside a whole one is rightly left out.
abbrev pub InsideIsLeftOut : Type 0
InsideIsLeftOut =
    (asked : Bool) (cut : Cut) (blif : Blif) (facts : List CellFacts) (i : ℕ) (p : NumberedPlace)
    → At (numbered_places cut.top) (suc i) p → is_inside_whole cut p.at ≡ true → IsRightly asked cut blif facts i false

-- The law: so is one of a cell that is not allowed with any model.
abbrev pub RefusedIsLeftOut : Type 0
RefusedIsLeftOut =
    (asked : Bool) (cut : Cut) (blif : Blif) (facts : List CellFacts) (i : ℕ) (p : NumberedPlace)
    → At (numbered_places cut.top) (suc i) p
    → ((m : ℕ) → paired_model cut.top.design blif cut.top.rules p.at.cell ≡ Model m → ¬ IsAllowed cut.top blif facts p.at.cell m)
    → IsRightly asked cut blif facts i false

-- The law: so is one whose outputs are not open.
abbrev pub ClosedIsLeftOut : Type 0
ClosedIsLeftOut =
    (asked : Bool) (cut : Cut) (blif : Blif) (facts : List CellFacts) (i : ℕ) (p : NumberedPlace) (m : ℕ) (flat : Circuit)
    → IsNext cut blif i p m flat → ¬ AreItsOutputsOpen cut blif facts i p m flat → IsRightly asked cut blif facts i false

-- The law: any other is rightly chosen where cycles are not asked for.
abbrev pub OpenIsChosen : Type 0
OpenIsChosen =
    (cut : Cut) (blif : Blif) (facts : List CellFacts) (i : ℕ) (p : NumberedPlace) (m : ℕ) (flat : Circuit)
    → IsNext cut blif i p m flat → is_inside_whole cut p.at ≡ false
    → IsAllowed cut.top blif facts p.at.cell m
    → AreItsOutputsOpen cut blif facts i p m flat → IsRightly false cut blif facts i true

-- The law: where they are asked for, it is so exactly where the circuit with it has no cycle, if the flat circuit has none.
abbrev pub AcyclicIsChosen : Type 0
AcyclicIsChosen =
    (cut : Cut) (blif : Blif) (facts : List CellFacts) (i : ℕ) (p : NumberedPlace) (m : ℕ) (flat circuit : Circuit) (free : Bool)
    → IsNext cut blif i p m flat → AreRules cut.top.rules → is_inside_whole cut p.at ≡ false
    → IsAllowed cut.top blif facts p.at.cell m
    → AreItsOutputsOpen cut blif facts i p m flat → AreAcyclic flat cut.top.rules.phases
    → IsCircuitWith (with_one cut i) blif facts circuit → AreWholeOutputsApart (with_one cut i) blif
    → (free ≡ true) ↔ AreAcyclic circuit cut.top.rules.phases → IsRightly true cut blif facts i free
