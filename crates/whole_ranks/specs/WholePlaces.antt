-- Whole instances by their places in an unrolled netlist.
use Rattle.std.specs.Prelude.{◌≡◌, ℕ, ◌<◌, Bool, false, List, length, map}
use Rattle.vrt_model.specs.Comparison.{CellPort, Comparison, is_observed, ports_of}
use Rattle.vrt_model.specs.Cut.{Cut, NumberedPlace}
use Rattle.vrt_model.specs.Known.{IsPlain}
use Rattle.vrt_model.specs.Lists.{Among}
use Rattle.vrt_model.specs.PairedPorts.{Model, paired_model}
use Rattle.vrt_model.specs.Unrolled.{Place}
use Rattle.vrt_model.specs.Unsupported.{comparison_of}
use Rattle.vrt_model.specs.WholeInstances.{IsWholeAt}
use Rattle.vrt_model.specs.declared.blif.Blif.{Blif}
use Rattle.vrt_model.specs.declared.circuit.Circuit.{Circuit}
use Rattle.vrt_model.specs.declared.whole.CellFacts.{CellFacts}
use Rattle.vrt_model.specs.declared.whole.Whole.{Whole}
use Rattle.vrt_model.specs.declared.whole.WholePin.{WholePin}
use Rattle.whole_ranks.specs.WholeCells.{IsInputNet, MeetsAllInputs, StandsFor}

-- the ports of the cell are tied to the nets at which `at` has them
abbrev pub ArePortsAt : Comparison → Place → (ℕ → ℕ) → Type 0
ArePortsAt k place at = place.ports ≡ map (λ (p : CellPort). at p.net) (ports_of k)

-- each output of the instance is at a plain net
abbrev pub HasPlainOutputs : Circuit → Whole → Type 0
HasPlainOutputs c w = (pin : WholePin) → Among w.outputs pin → IsPlain c pin.net.0

-- an input of the cell that is not observed around it is not observed in it, and then the cell has no constraints on its inputs
abbrev pub AreQuietInputs : Comparison → ℕ → (ℕ → Bool) → (ℕ → ℕ) → Type 0
AreQuietInputs k phase observed at = (n : ℕ) → IsInputNet k.circuit n → observed (at n) ≡ false → (is_observed k phase n ≡ false) × MeetsAllInputs k phase

-- The law: the instance at a place, with the links of the definitions, stands for its cell.
abbrev pub WholePlacesStandForCells : Type 0
WholePlacesStandForCells =
    (cut : Cut) (blif : Blif) (facts : List CellFacts) (p : NumberedPlace) (m phase : ℕ) (c : Circuit) (observed : ℕ → Bool) (at : ℕ → ℕ) (w : Whole)
    → paired_model cut.top.design blif cut.top.rules p.at.cell ≡ Model m
    → IsWholeAt cut blif facts p w → phase < length cut.top.rules.phases
    → ArePortsAt (comparison_of cut.top.design blif cut.top.rules p.at.cell m) p.at at
    → HasPlainOutputs c w → AreQuietInputs (comparison_of cut.top.design blif cut.top.rules p.at.cell m) phase observed at
    → StandsFor (comparison_of cut.top.design blif cut.top.rules p.at.cell m) phase c observed at w
