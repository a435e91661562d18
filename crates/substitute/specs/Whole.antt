-- The circuit of a cell with its instances left whole.
use Rattle.std.specs.Prelude.{◌≡◌, ℕ, List, length, Option, Some, None, Result, Ok, Err}
use Rattle.flatten.specs.Structures.{IsFault}
use Rattle.flatten.specs.declared.faults.FlatFault.{FlatFault}
use Rattle.formed_cells.specs.Formed.{AreRead}
use Rattle.net_places.specs.Whole.{whole_of}
use Rattle.net_places.specs.declared.places.Place.{Place}
use Rattle.replaced_instances.specs.Steps.{IsSoundNetlist}
use Rattle.whole_circuits.specs.declared.whole_cell.WholeCell.{WholeCell}
use Rattle.vrt_model.specs.Checked.{IsChecked}
use Rattle.vrt_model.specs.Circuits.{IsCircuit}
use Rattle.vrt_model.specs.Cut.{Cut}
use Rattle.vrt_model.specs.Facts.{IsTrueOf}
use Rattle.vrt_model.specs.FlatCircuit.{flat_circuit_of}
use Rattle.vrt_model.specs.Lists.{Among, At}
use Rattle.vrt_model.specs.Unrolled.{Top}
use Rattle.vrt_model.specs.Unsupported.{top_before}
use Rattle.vrt_model.specs.declared.blif.Blif.{Blif}
use Rattle.vrt_model.specs.declared.circuit.Circuit.{Circuit}
use Rattle.vrt_model.specs.declared.design.Design.{Design}
use Rattle.vrt_model.specs.declared.pairing.Pairing.{Pairing}
use Rattle.vrt_model.specs.declared.pairing.PortRole.{PortRole}
use Rattle.vrt_model.specs.declared.rules.Rules.{Rules}
use Rattle.vrt_model.specs.declared.whole.CellFacts.{CellFacts}
use Rattle.whole_cells.specs.Entries.{IsEntry}
use Rattle.substitute.specs.BareParts.{HasParts}
use Rattle.substitute.specs.Candidates.{IsGround}
use Rattle.substitute.specs.declared.checked_circuit.CheckedCircuit.{CheckedCircuit}

-- a table with an entry for each cell of the netlist, that of each cell of the places what its instances have in common
pub record AreEntriesOf (design : Design) (blif : Blif) (rules : Rules) (facts : List CellFacts) (places : List Place) (cells : List (Option WholeCell)) : Type 0 where
  pub each : length cells ≡ length design.cells
  pub are :
      (place : Place) (entry : Option WholeCell) → Among places place → At cells place.cell entry → IsEntry (top_before design rules place.cell) blif facts place.cell entry

-- a cell whose ports have these roles, on sound ground, and its flat circuit
pub record IsWholeGround (design : Design) (blif : Blif) (rules : Rules) (cell : ℕ) (roles : List PortRole) (facts : List CellFacts) (flat : Circuit) : Type 0 where
  pub ground : IsGround (whole_of design rules cell roles) blif facts flat
  pub flat_is : flat ≡ flat_circuit_of (whole_of design rules cell roles)

-- the checked circuit of a cell, none where it is the flat one; with its parts, where they are kept
abbrev pub WholeGives : Top → Blif → List CellFacts → Circuit → Option CheckedCircuit → Type 0
WholeGives t blif facts flat None = (cut : Cut) × (cut.top ≡ t) × IsChecked cut blif facts flat
WholeGives t blif facts flat (Some x) = ((cut : Cut) × (cut.top ≡ t) × IsChecked cut blif facts x.circuit) × HasParts t.rules.phases x

-- the same ground, but that the flat circuit may have cycles
pub record IsCellGround (t : Top) (blif : Blif) (facts : List CellFacts) (flat : Circuit) : Type 0 where
  pub netlist : IsSoundNetlist t
  pub read : AreRead blif t.rules
  pub told : (cell : ℕ) (f : CellFacts) → At facts cell f → IsTrueOf t.design blif t.rules cell f
  pub formed : IsCircuit flat
  pub flat_is : flat ≡ flat_circuit_of t

-- the checked circuit of a cell whose ports have the roles of a pairing, or what stands in the way of its flat one
abbrev pub WholeAnswers : Design → Blif → Rules → ℕ → Pairing → List CellFacts → Result Circuit FlatFault → Type 0
WholeAnswers design blif rules cell pairing facts (Ok c) = (cut : Cut) × (cut.top ≡ whole_of design rules cell pairing.ports) × IsChecked cut blif facts c
WholeAnswers design blif rules cell pairing facts (Err fault) = IsFault (top_before design rules cell) fault
