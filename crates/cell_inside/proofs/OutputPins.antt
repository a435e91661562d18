-- The output pins of whole instances, by their places.
use Rattle.std.proofs.Common.{◌≡◌, ℕ, Option, Some, None, map, refl, sym, ◌∙◌, ap}
use Rattle.std.specs.Prelude.{option_map, slice_get}
use Rattle.std.proofs.lemmas.Option.{none-some, same_Some, slice_get-map}
use Rattle.vrt_model.specs.Lists.{At}
use Rattle.vrt_model.specs.State.{OutputPin, output_pins}
use Rattle.vrt_model.specs.declared.circuit.Circuit.{Circuit}
use Rattle.vrt_model.specs.declared.whole.WholePin.{WholePin}

-- the pin at a place, with the instance to which it belongs
pub pin_found : (c : Circuit) (place : ℕ) (pin : WholePin) → At (map (λ (out : OutputPin). out.pin) (output_pins c)) place pin
    → (out : OutputPin) × At (output_pins c) place out × (out.pin ≡ pin)
pin_found c place pin e = found (slice_get (output_pins c) place) refl (sym (slice_get-map (λ (p : OutputPin). p.pin) (output_pins c) place) ∙ e)
  where
    found : (o : Option OutputPin) → slice_get (output_pins c) place ≡ o → option_map (λ (out : OutputPin). out.pin) o ≡ Some pin → (out : OutputPin) × At (output_pins c) place out × (out.pin ≡ pin)
    found None there is = absurd (none-some pin is)
    found (Some out) there is = (out, there, same_Some out.pin pin is)

-- and back
pub pin_there : (c : Circuit) (place : ℕ) (out : OutputPin) → At (output_pins c) place out → At (map (λ (o : OutputPin). o.pin) (output_pins c)) place out.pin
pin_there c place out e = slice_get-map (λ (p : OutputPin). p.pin) (output_pins c) place ∙ ap (option_map (λ (p : OutputPin). p.pin)) e
