-- A net with an output of a whole instance that meets gates alone is alone in its part.
use Rattle.std.proofs.Common.{◌≡◌, ℕ, Bool, map, refl, subst}
use Rattle.circuit_faults.proofs.OrderLaws.{inside_together}
use Rattle.circuit_faults.specs.Scans.{IsInside}
use Rattle.channel_parts.specs.PartLists.{IsPartOf}
use Rattle.channel_parts.specs.declared.part.Part.{Part}
use Rattle.vrt_model.proofs.Filtered.{device_among}
use Rattle.vrt_model.proofs.Laws.{turned}
use Rattle.vrt_model.proofs.Lists.{map_among}
use Rattle.vrt_model.proofs.Members.{flat_map_among}
use Rattle.vrt_model.specs.Known.{IsTogether, itself, onward}
use Rattle.vrt_model.specs.Lists.{Among}
use Rattle.vrt_model.specs.Networks.{HasRanges}
use Rattle.vrt_model.specs.Path.{Joins}
use Rattle.vrt_model.specs.State.{OutputPin, output_pins}
use Rattle.vrt_model.specs.declared.circuit.Circuit.{Circuit}
use Rattle.vrt_model.specs.declared.rules.Phase.{Phase}
use Rattle.vrt_model.specs.declared.whole.Whole.{Whole}
use Rattle.vrt_model.specs.declared.whole.WholePin.{WholePin}
use Rattle.whole_steps.specs.FreeOutputs.{IsFreeOutput}

-- a pin of a whole instance is an output of the circuit
pub pin_among : (c : Circuit) (x : Whole) (pin : WholePin) → Among c.wholes x → Among x.outputs pin → Among (output_pins c) (record { whole = x; pin = pin })
pin_among c x pin here there =
    flat_map_among (λ (y : Whole). map (λ (p : WholePin). let one : OutputPin = record { whole = y; pin = p } in one) y.outputs) c.wholes x (record { whole = x; pin = pin }) here
    (map_among (λ (p : WholePin). let one : OutputPin = record { whole = x; pin = p } in one) x.outputs pin there)

module _ (c : Circuit) (phase : Phase) (which : Bool) (rank : ℕ → ℕ) (ranges : HasRanges c) (at : ℕ) (out : OutputPin) (free : IsFreeOutput c at out) where
  -- no channel meets its net, so it is together with none but itself
  none_together : (m : ℕ) → IsTogether c phase which out.pin.net.0 m → m ≡ out.pin.net.0
  none_together m (itself p) = refl
  none_together m (onward {l = l} d t channel joins p) =
      absurd (free.channels d m (device_among which c d channel.0).0 (turned d out.pin.net.0 m (subst (λ (x : ℕ). Joins d x m) (none_together l t) joins)))

  pub driven_alone : (part : Part) → IsPartOf c phase which rank part → (m : ℕ) → IsInside part out.pin.net.0 → IsInside part m → m ≡ out.pin.net.0
  driven_alone part of m i j = none_together m (inside_together c phase which rank ranges part of out.pin.net.0 m i j)
