-- Which cells may have instances that are left whole, and what their instances have in common.
use Rattle.std.specs.Prelude.{◌≡◌, ℕ, true, List, [], length, Option, Some, None}
use Rattle.vrt_model.specs.FlatBlif.{model_at}
use Rattle.whole_circuits.specs.WholeCells.{IsWholeCell}
use Rattle.whole_circuits.specs.declared.whole_cell.WholeCell.{WholeCell}
use Rattle.vrt_model.specs.Checked.{is_cell_allowed}
use Rattle.vrt_model.specs.Comparison.{Comparison, cell_at}
use Rattle.vrt_model.specs.PairedPorts.{Model, paired_model}
use Rattle.vrt_model.specs.Unrolled.{Top}
use Rattle.vrt_model.specs.Unsupported.{comparison_of}
use Rattle.vrt_model.specs.declared.blif.Blif.{Blif}
use Rattle.vrt_model.specs.declared.circuit.Circuit.{Circuit}
use Rattle.vrt_model.specs.declared.design.Design.{Design}
use Rattle.vrt_model.specs.declared.rules.Rules.{Rules}
use Rattle.vrt_model.specs.declared.whole.CellFacts.{CellFacts}

-- instances of a cell that pairs with a model may be left whole: the cell allows it, and the model has no don't-care network
abbrev pub IsAllowed : Top → Blif → List CellFacts → ℕ → ℕ → Type 0
IsAllowed t blif facts cell m = (is_cell_allowed t facts (comparison_of t.design blif t.rules cell m) ≡ true) × ((model_at blif m).exdc ≡ [])

-- the instances of a cell may be left whole, and have this in common
pub record IsWholeEntry (t : Top) (blif : Blif) (facts : List CellFacts) (number : ℕ) (own : WholeCell) : Type 0 where
  pub cell : IsWholeCell t blif facts number own
  pub allowed : (m : ℕ) → paired_model t.design blif t.rules number ≡ Model m → IsAllowed t blif facts number m
  pub ports : length own.ports.items ≡ length (cell_at t.design number).ports

-- what they have in common, exactly where they may be left whole
abbrev pub IsEntry : Top → Blif → List CellFacts → ℕ → Option WholeCell → Type 0
IsEntry t blif facts cell None = (m : ℕ) → paired_model t.design blif t.rules cell ≡ Model m → ¬ IsAllowed t blif facts cell m
IsEntry t blif facts cell (Some own) = IsWholeEntry t blif facts cell own

-- a comparison of this cell over this circuit
pub record IsOfOwn (design : Design) (rules : Rules) (cell : ℕ) (circuit : Circuit) (k : Comparison) : Type 0 where
  pub design_is : k.design ≡ design
  pub rules_are : k.rules ≡ rules
  pub cell_is : k.cell ≡ cell
  pub circuit_is : k.circuit ≡ circuit
