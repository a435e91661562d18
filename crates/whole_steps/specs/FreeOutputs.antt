-- Outputs of whole instances that drive nets that meet gates alone.
use Rattle.std.specs.Prelude.{◌≡◌, ℕ, Bool}
use Rattle.vrt_model.specs.Known.{IsPlain}
use Rattle.vrt_model.specs.Lists.{At, Among}
use Rattle.vrt_model.specs.Networks.{HasRanges}
use Rattle.vrt_model.specs.Path.{Joins}
use Rattle.vrt_model.specs.Response.{IsResponse, Shows}
use Rattle.vrt_model.specs.State.{OutputPin, State, network_of, output_pins}
use Rattle.vrt_model.specs.declared.circuit.Circuit.{Circuit}
use Rattle.vrt_model.specs.declared.circuit.Device.{Device}
use Rattle.vrt_model.specs.declared.whole.Drive.TheVariants.{Soft}

-- each output of a whole instance is soft, and at a plain net that no channel meets and no other output drives
pub record HasFreeOutputs (c : Circuit) : Type 0 where
  pub soft : (at : ℕ) (out : OutputPin) → At (output_pins c) at out → out.pin.drive ≡ Soft
  pub plain : (at : ℕ) (out : OutputPin) → At (output_pins c) at out → IsPlain c out.pin.net.0
  pub channels : (at : ℕ) (out : OutputPin) (d : Device) (n : ℕ) → At (output_pins c) at out → Among c.devices d → ¬ Joins d n out.pin.net.0
  pub one : (at k : ℕ) (out other : OutputPin) → At (output_pins c) at out → At (output_pins c) k other → out.pin.net ≡ other.pin.net → at ≡ k

-- one of them is so
pub record IsFreeOutput (c : Circuit) (at : ℕ) (out : OutputPin) : Type 0 where
  pub soft : out.pin.drive ≡ Soft
  pub plain : IsPlain c out.pin.net.0
  pub channels : (d : Device) (n : ℕ) → Among c.devices d → ¬ Joins d n out.pin.net.0
  pub one : (k : ℕ) (other : OutputPin) → At (output_pins c) k other → out.pin.net ≡ other.pin.net → at ≡ k

-- The law: the net of such an output shows the bit that drives it, in the bare circuit and in the kept one.
abbrev pub FreeOutputsShow : Type 0
FreeOutputsShow =
    (c : Circuit) (which : Bool) (held : ℕ → Bool) (s : State) → HasRanges c
    → (at : ℕ) (out : OutputPin) → At (output_pins c) at out → IsFreeOutput c at out → IsResponse (network_of c which held s) out.pin.net.0 (Shows (s.driven at))
