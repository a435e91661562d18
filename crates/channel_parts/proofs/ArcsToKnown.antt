-- No arc leads to a known net: its part is within its shut set, whose gates are known, and at which no output pin is.
use Rattle.std.proofs.Common.{◌≡◌, ℕ, Bool, true, subst, refl, inl, inr}
use Rattle.known_nets.proofs.KnownShow.{fixed_not_plain}
use Rattle.vrt_model.proofs.Ranked.{together_first}
use Rattle.vrt_model.specs.Known.{HasArc, HasGateArc, HasWholeArc, IsKnown, IsPlain, IsShut, IsTogether, IsUnknown, fixed, itself, onward, settled}
use Rattle.vrt_model.specs.Lists.{Among}
use Rattle.vrt_model.specs.Path.{Joins}
use Rattle.vrt_model.specs.Reading.{devices_of}
use Rattle.vrt_model.specs.declared.circuit.Circuit.{Circuit}
use Rattle.vrt_model.specs.declared.circuit.Device.{Device}
use Rattle.vrt_model.specs.declared.rules.Phase.{Phase}

-- a shut set whose gates are known
module _ (c : Circuit) (phase : Phase) (inside reading : ℕ → Bool) (shut : IsShut c phase inside reading)
    (gates : (m l : ℕ) (d : Device) → inside m ≡ true → Among (devices_of true c) d → Joins d m l → IsKnown c phase d.gate.0 (reading d.gate.0)) where
  -- the part of a net of the set is within it
  part_inside : (n m : ℕ) → inside n ≡ true → IsTogether c phase true n m → inside m ≡ true
  part_inside n m ins (itself p) = ins
  part_inside n m ins (onward {l = l} d t channel j p) =
      let here : inside l ≡ true = part_inside n l ins t in
      let known = gates l m d here channel.0 j in
      elim (shut.joined l m d here channel.0 j (channel.1 (reading d.gate.0) known)) [
        | inl there ↦ there
        | inr f ↦ absurd (fixed_not_plain c phase m f.0 f.1 p)
      ]

  no_gate_arc : (n m : ℕ) → inside m ≡ true → HasGateArc c phase n m → ⊥
  no_gate_arc n m ins (d, part, e, unknown) =
      let here = part_inside m part.0 ins part.2 in
      let known = gates part.0 part.1 d here part.3.0 part.4 in
      unknown (reading d.gate.0) (subst (λ (k : ℕ). IsKnown c phase k (reading d.gate.0)) e known)

  no_whole_arc : (n m : ℕ) → inside m ≡ true → HasWholeArc c phase n m → ⊥
  no_whole_arc n m ins (w, link, leads) =
      let out = leads.4 in
      let here = part_inside m out.0.net.0 ins out.2 in
      (shut.plain out.0.net.0 here).2 (w, out.0, leads.0, (link.output, out.1), refl)

pub no_arcs_to_known_nets : (c : Circuit) (phase : Phase) (n m : ℕ) → HasArc c phase n m → IsUnknown c phase m
no_arcs_to_known_nets c phase n m arc v known = none known arc
  where
    first : HasGateArc c phase n m → IsPlain c m
    first (d, part, e, unknown) = together_first c phase true m part.0 part.2

    none : IsKnown c phase m v → HasArc c phase n m → ⊥
    none (fixed f) (inl gate) = fixed_not_plain c phase m v f (first gate)
    none (fixed f) (inr whole) = fixed_not_plain c phase m v f (together_first c phase true m whole.2.4.0.net.0 whole.2.4.2)
    none (settled inside r held driven shut ins own gates shows) (inl gate) = no_gate_arc c phase inside r shut gates n m ins gate
    none (settled inside r held driven shut ins own gates shows) (inr whole) = no_whole_arc c phase inside r shut gates n m ins whole
