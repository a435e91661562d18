-- A net that shows a bit in the bare circuit does not float in the kept one: its path is there too, so some clear path is.
use Rattle.std.proofs.Common.{◌≡◌, ℕ, ◌<◌, Bool, true, false, List, [], ◌∷◌, length, arith, refl, inl, inr}
use Rattle.circuit_faults.proofs.StrongReached.{strong_reached}
use Rattle.path_fixpoint.proofs.PinLaws.{pin_level}
use Rattle.vrt_model.proofs.Decidable.{strength_at, strength_at_is}
use Rattle.vrt_model.proofs.Filtered.{among_devices, device_among}
use Rattle.vrt_model.proofs.Members.{all_among}
use Rattle.vrt_model.proofs.Networks.{network_finite}
use Rattle.vrt_model.proofs.SameNetwork.{IsPartOf, path_more}
use Rattle.vrt_model.specs.Circuits.{IsDevice, IsHold}
use Rattle.vrt_model.specs.Networks.{HasRanges}
use Rattle.vrt_model.specs.Path.{Hop, IsPath, Network, Root, level_of}
use Rattle.vrt_model.specs.Reading.{bare, kept}
use Rattle.vrt_model.specs.Response.{Float, IsResponse, Reaches, Shows}
use Rattle.vrt_model.specs.State.{State, network_of}
use Rattle.vrt_model.specs.declared.circuit.Circuit.{Circuit}
use Rattle.vrt_model.specs.Levels.{source_level}
use Rattle.path_fixpoint.proofs.SourceLevels.{device_below, source_low}

bare_in_kept : (c : Circuit) (held : ℕ → Bool) (s : State) → IsPartOf (network_of c bare held s) (network_of c kept held s)
bare_in_kept c held s = record {
  roots = λ root r. r;
  devices = λ d on. (among_devices kept c d (device_among bare c d on.0).0 refl, on.1);
}

-- each path has a level
level_some : (c : Circuit) (held : ℕ → Bool) (s : State) → HasRanges c → (root : Root) (hops : List Hop) → IsPath (network_of c kept held s) root hops → 0 < level_of root hops
level_some c held s ranges root [] p =
    elim p [
      | inl g ↦ (let is : root.level ≡ source_level c = g.3 in omega (arith, is, source_low c))
      | inr other ↦ elim other [
        | inl h ↦ (let is = h.4 in let some = (all_among (IsHold c) c.holds h.1 ranges.holds (h.0, h.2)).size.0 in omega (arith, is, some))
        | inr o ↦
            let some = (pin_level c o.1 ranges (o.0, o.2)).0 in
            let is = o.4 in
            omega (arith, some, is)
      ]
    ]
level_some c held s ranges root (hop ∷ hops) p =
    let before = level_some c held s ranges root hops p.0 in
    let some = (device_below c hop.device.level (all_among (IsDevice c) c.devices hop.device ranges.devices (device_among kept c hop.device p.1.0).0).level).0 in
    omega (arith, before, some)

shown_value : (w : Network) (n : ℕ) (v : Bool) → IsResponse w n (Shows v) → (u : Bool) × Reaches w n u
shown_value w n true h = (true, h.0)
shown_value w n false h = (false, h.0)

pub kept_no_float : (c : Circuit) (held : ℕ → Bool) (s : State) (n : ℕ) (v : Bool) → HasRanges c → IsResponse (network_of c bare held s) n (Shows v)
    → IsResponse (network_of c kept held s) n Float → ⊥
kept_no_float c held s n v ranges shows floats =
    let w = network_of c kept held s in
    let finite = network_finite c kept held s ranges in
    let r = (shown_value (network_of c bare held s) n v shows).1 in
    let path = path_more (network_of c bare held s) w (bare_in_kept c held s) r.0 r.1 r.2 in
    let some = level_some c held s ranges r.0 r.1 path in
    let low = (strength_at_is w (length c.nets) (source_level c) finite n).0 r.0 r.1 path r.4 in
    elim (strong_reached w (strength_at w (length c.nets) (source_level c) finite) (strength_at_is w (length c.nets) (source_level c) finite) (source_level c) finite.most n (omega (arith, some, low))) [
      | inl one ↦ floats.0 one
      | inr zeros ↦ floats.1 zeros
    ]
