-- What a net that shows a bit is reached by, and how strong a net of a cell is that some value reaches.
use Rattle.std.proofs.Common.{◌≡◌, ℕ, ◌<◌, Bool, true, false, List, [], ◌∷◌, arith, subst, refl, inl, inr}
use Rattle.cell_inside.proofs.OutputPins.{pin_found}
use Rattle.vrt_model.proofs.Members.{at_none}
use Rattle.vrt_model.proofs.Scales.{least_below}
use Rattle.vrt_model.specs.Levels.{source_level}
use Rattle.vrt_model.specs.Lists.{Among, At}
use Rattle.vrt_model.specs.Path.{Hop, IsPath, Network, Root, level_of}
use Rattle.vrt_model.specs.Reading.{devices_of}
use Rattle.vrt_model.specs.Response.{IsResponse, IsStrength, Reaches, Shows}
use Rattle.vrt_model.specs.State.{State, network_of, output_pins}
use Rattle.vrt_model.specs.declared.circuit.Circuit.{Circuit}
use Rattle.vrt_model.specs.declared.circuit.Device.{Device}
use Rattle.vrt_model.specs.declared.circuit.Hold.{Hold}
use Rattle.vrt_model.specs.declared.whole.Whole.{Whole}

-- its bit reaches it, and no other
pub shown_bit_reaches : (w : Network) (n : ℕ) (v : Bool) → IsResponse w n (Shows v) → Reaches w n v
shown_bit_reaches w n true h = h.0
shown_bit_reaches w n false h = h.0

pub only_shown_bit : (w : Network) (n : ℕ) (v u : Bool) → IsResponse w n (Shows v) → Reaches w n u → u ≡ v
only_shown_bit w n true true h reaches = refl
only_shown_bit w n true false h reaches = absurd (h.1 reaches)
only_shown_bit w n false true h reaches = absurd (h.1 reaches)
only_shown_bit w n false false h reaches = refl

-- a net that some value reaches in a cell without holds and whole instances has a strength above 0
pub reached_is_driven : (cell : Circuit) (which : Bool) (s : State) (n l : ℕ) (v : Bool) → ((d : Device) → Among (devices_of which cell) d → 0 < d.level) → cell.holds ≡ [] → cell.wholes ≡ []
    → Reaches (network_of cell which (λ j. false) s) n v → IsStrength (network_of cell which (λ j. false) s) n l → 0 < l
reached_is_driven cell which s n l v levels no_holds no_wholes reaches strong =
    let low = above reaches.0 reaches.1 reaches.2 in
    let le = strong.0 reaches.0 reaches.1 reaches.2 reaches.4 in
    omega (arith, low, le)
  where
    above : (root : Root) (hops : List Hop) → IsPath (network_of cell which (λ j. false) s) root hops → 0 < level_of root hops
    above root (hop ∷ hops) path =
        let before = above root hops path.0 in
        let here = levels hop.device path.1.0 in
        omega (arith, before, here)
    above root [] path =
        elim path [
          | inl g ↦ (let is : root.level ≡ source_level cell = g.3 in let below = least_below cell in omega (arith, is, below))
          | inr other ↦ elim other [
            | inl h ↦ absurd (at_none h.0 h.1 (subst (λ (hs : List Hold). At hs h.0 h.1) no_holds h.2))
            | inr o ↦
                let out = pin_found cell o.0 o.1 o.2 in
                absurd (at_none o.0 out.0 (subst (λ (ws : List Whole). At (output_pins (record cell { wholes = ws })) o.0 out.0) no_wholes out.1))
          ]
        ]
