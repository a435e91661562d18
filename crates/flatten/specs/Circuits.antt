-- The flat circuit of a cell.
use Rattle.std.specs.Prelude.{◌≡◌, ℕ, Result, Ok, Err}
use Rattle.flatten.specs.Structures.{IsFault, IsStructured}
use Rattle.flatten.specs.declared.faults.FlatFault.{FlatFault}
use Rattle.vrt_model.specs.Circuits.{IsCircuit, IsFlat}
use Rattle.vrt_model.specs.FlatCircuit.{flat_circuit}
use Rattle.vrt_model.specs.Unsupported.{top_before}
use Rattle.vrt_model.specs.declared.circuit.Circuit.{Circuit}
use Rattle.vrt_model.specs.declared.design.Design.{Design}
use Rattle.vrt_model.specs.declared.pairing.Pairing.{Pairing}
use Rattle.vrt_model.specs.declared.rules.Rules.{Rules}

-- the flat circuit of a cell whose ports have the roles of the pairing; it is well formed, and nothing stands in its way
pub record IsFlatCircuit (design : Design) (rules : Rules) (cell : ℕ) (pairing : Pairing) (circuit : Circuit) : Type 0 where
  pub is : circuit ≡ flat_circuit design rules cell pairing
  pub formed : IsCircuit circuit
  pub flat : IsFlat circuit
  pub structured : IsStructured (top_before design rules cell)

abbrev pub FlatGives : Design → Rules → ℕ → Pairing → Result Circuit FlatFault → Type 0
FlatGives design rules cell pairing (Ok circuit) = IsFlatCircuit design rules cell pairing circuit
FlatGives design rules cell pairing (Err fault) = IsFault (top_before design rules cell) fault
