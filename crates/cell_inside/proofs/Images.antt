-- Images of devices: they conduct, and are keepers, as their devices do.
use Rattle.std.proofs.Common.{◌≡◌, ℕ, Bool, true, false, not, refl, ◌∙◌, ap}
use Rattle.cell_inside.specs.Placed.{IsImage}
use Rattle.vrt_model.specs.Reading.{conducts, conducts_at, is_in}
use Rattle.vrt_model.specs.State.{State}
use Rattle.vrt_model.specs.declared.circuit.Device.{Device}

-- an image conducts where its device does, in the cell alone
pub image_conducts : (s : State) (at : ℕ → ℕ) (d e : Device) → IsImage at d e → conducts s.reading e ≡ conducts (λ n. s.reading (at n)) d
image_conducts s at d e i = ap (λ k. conducts_at k (s.reading e.gate.0)) i.kind ∙ ap (λ (g : ℕ). conducts_at d.kind (s.reading g)) i.gate

-- an image is in the bare or the kept circuit where its device is
pub image_in : (bare : Bool) (at : ℕ → ℕ) (d e : Device) → IsImage at d e → is_in bare e ≡ is_in bare d
image_in true at d e i = ap not i.keeper
image_in false at d e i = refl
