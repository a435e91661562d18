-- What is given of a cell and of the cells below it, and the checked circuit that is made of these.
use Rattle.std.specs.Prelude.{◌≡◌, ℕ, ◌<◌, ◌&&◌, Bool, false, List, length}
use Rattle.std.specs.List.{list_any}
use Rattle.formed_cells.specs.Formed.{AreRead}
use Rattle.substitution_laws.specs.Agreement.{IsCheckedByFacts}
use Rattle.vrt_model.specs.Checked.{IsChecked, has_fact, top_of}
use Rattle.vrt_model.specs.Comparison.{Comparison}
use Rattle.vrt_model.specs.Cut.{Cut}
use Rattle.vrt_model.specs.Facts.{IsTrueOf}
use Rattle.vrt_model.specs.FlatCircuit.{flat_circuit_of}
use Rattle.vrt_model.specs.Hierarchy.{IsOrdered}
use Rattle.vrt_model.specs.Inputs.{IsDesign}
use Rattle.vrt_model.specs.Lists.{At}
use Rattle.vrt_model.specs.Unsupported.{IsSupported, comparison_of}
use Rattle.vrt_model.specs.declared.blif.Blif.{Blif}
use Rattle.vrt_model.specs.declared.circuit.Circuit.{Circuit}
use Rattle.vrt_model.specs.declared.circuit.FlatInstance.{FlatInstance}
use Rattle.vrt_model.specs.declared.design.Design.{Design}
use Rattle.vrt_model.specs.declared.rules.Rules.{Rules}
use Rattle.vrt_model.specs.declared.whole.CellFacts.{CellFacts}

-- a cell of a netlist whose cells have an order, with models and rules, as readers give them
pub record IsReadCell (design : Design) (blif : Blif) (rules : Rules) (cell : ℕ) : Type 0 where
  pub netlist : IsDesign design
  pub read : AreRead blif rules
  pub ordered : IsOrdered design rules
  pub there : cell < length design.cells

-- what is told of cells is true
pub record AreTrueFacts (design : Design) (blif : Blif) (rules : Rules) (facts : List CellFacts) : Type 0 where
  pub told : (cell : ℕ) (f : CellFacts) → At facts cell f → IsTrueOf design blif rules cell f

-- the circuit is the checked one of a comparison, where these facts are known of the cells below
abbrev pub IsCheckedOf : Comparison → Blif → List CellFacts → Circuit → Type 0
IsCheckedOf k blif facts c = (cut : Cut) × (cut.top ≡ top_of k) × IsChecked cut blif facts c

-- The law: it is made of a sound netlist, and of instances that are chosen by true facts.
abbrev pub CheckedCellsAreByFacts : Type 0
CheckedCellsAreByFacts =
    (design : Design) (blif : Blif) (rules : Rules) (cell m : ℕ) (facts : List CellFacts) (cut : Cut) (c : Circuit)
    → IsReadCell design blif rules cell → IsSupported design blif rules cell m → AreTrueFacts design blif rules facts
    → cut.top ≡ top_of (comparison_of design blif rules cell m) → IsChecked cut blif facts c
    → IsCheckedByFacts (comparison_of design blif rules cell m) cut blif facts c

-- an instance is of a cell that is known as equal and stateless
abbrev pub is_candidate : List CellFacts → FlatInstance → Bool
is_candidate facts i = has_fact (λ (f : CellFacts). f.equal && f.stateless) facts i.cell

-- The law: where no instance is, none is left whole, and the checked circuit is the flat one.
abbrev pub NothingIsWhole : Type 0
NothingIsWhole =
    (k : Comparison) (blif : Blif) (facts : List CellFacts)
    → k.circuit ≡ flat_circuit_of (top_of k) → list_any (is_candidate facts) k.circuit.instances ≡ false → IsCheckedOf k blif facts k.circuit
