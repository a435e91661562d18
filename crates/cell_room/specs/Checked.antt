-- The checked circuit of a comparison.
use Rattle.std.specs.Prelude.{◌≡◌, List, Option}
use Rattle.cell_room.specs.Works.{IsPlanned}
use Rattle.checked_cells.specs.Given.{IsCheckedOf}
use Rattle.substitution_laws.specs.Agreement.{IsCheckedByFacts}
use Rattle.vrt_model.specs.Checked.{top_of}
use Rattle.vrt_model.specs.Comparison.{Comparison}
use Rattle.vrt_model.specs.FlatCircuit.{flat_circuit_of}
use Rattle.vrt_model.specs.declared.blif.Blif.{Blif}
use Rattle.vrt_model.specs.declared.circuit.Circuit.{Circuit}
use Rattle.vrt_model.specs.declared.whole.CellFacts.{CellFacts}
use Rattle.substitute.specs.Candidates.{IsGround}
use Rattle.substitute.specs.Whole.{WholeGives}
use Rattle.substitute.specs.declared.checked_circuit.CheckedCircuit.{CheckedCircuit}

-- the circuit of the comparison is the flat one of its cell; once nothing stands in the way of its phases, instances may be tried in
-- it, and a checked circuit of it is made of instances that are chosen by true facts
pub record IsCheckable (k : Comparison) (blif : Blif) (facts : List CellFacts) : Type 0 where
  pub flat : k.circuit ≡ flat_circuit_of (top_of k)
  pub ground : IsPlanned k → IsGround (top_of k) blif facts k.circuit
  pub by_facts : (c : Circuit) → IsPlanned k → (is : IsCheckedOf k blif facts c) → IsCheckedByFacts k is.0 blif facts c

-- the checked circuit, none where it is the flat one; with its parts, where they are kept
abbrev pub CheckedGives : Comparison → Blif → List CellFacts → Option CheckedCircuit → Type 0
CheckedGives k blif facts whole = WholeGives (top_of k) blif facts k.circuit whole

-- the comparison with another circuit that has the same groups of holds
abbrev pub over : Comparison → Circuit → Comparison
over k c = record k { circuit = c }
