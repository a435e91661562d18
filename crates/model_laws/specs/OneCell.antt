-- Cells without instances and holds whose gates are nets with given values.
use Rattle.std.specs.Prelude.{◌≡◌, ℕ, false, []}
use Rattle.model_laws.specs.Logic.{IsLogic}
use Rattle.vrt_model.proofs.GatesGiven.{HasGivenGates}
use Rattle.vrt_model.specs.Comparison.{Comparison}
use Rattle.vrt_model.specs.Faults.{surroundings_of}
use Rattle.vrt_model.specs.Lists.{Among}
use Rattle.vrt_model.specs.State.{Setting}
use Rattle.vrt_model.specs.declared.circuit.Device.{Device}

-- a comparison of such a cell, in a phase
pub record IsOneCell (k : Comparison) (phase : ℕ) : Type 0 where
  pub gates : HasGivenGates k.circuit
  pub holds : k.circuit.holds ≡ []
  pub instances : k.circuit.instances ≡ []
  pub keepers : (d : Device) → Among k.circuit.devices d → d.keeper ≡ false
  pub logic : (setting : Setting) → IsLogic k.model (surroundings_of k phase setting)
