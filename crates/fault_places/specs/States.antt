-- Circuits that have a state for each reading.
use Rattle.std.specs.Prelude.{ℕ, Bool}
use Rattle.vrt_model.specs.Known.{IsPlain}
use Rattle.vrt_model.specs.Lists.{At}
use Rattle.vrt_model.specs.Reading.{IsReading}
use Rattle.vrt_model.specs.State.{IsState, OutputPin, output_pins}
use Rattle.vrt_model.specs.declared.circuit.Circuit.{Circuit}
use Rattle.vrt_model.specs.declared.rules.Phase.{Phase}

-- whatever the bits of the nets are, the whole instances have bits for their outputs, and these are at plain nets
pub record HasStates (c : Circuit) (phase : Phase) : Type 0 where
  pub state : (inputs reading : ℕ → Bool) → IsReading c phase inputs reading → (driven : ℕ → Bool) × IsState c phase inputs (record { reading = reading; driven = driven })
  pub plain : (at : ℕ) (out : OutputPin) → At (output_pins c) at out → IsPlain c out.pin.net.0
