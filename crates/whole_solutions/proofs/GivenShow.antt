-- A net with a given value shows it in each state, also where whole instances stand.
use Rattle.std.proofs.Common.{◌≡◌, ℕ, Bool, List, [], arith, ap, subst, sym, refl, ◌∙◌, inl, inr}
use Rattle.cell_inside.proofs.OutputPins.{pin_found}
use Rattle.cell_inside.specs.Regions.{ArePinsPlain}
use Rattle.vrt_model.proofs.GatesGiven.{IsGiven}
use Rattle.vrt_model.proofs.GivenNets.{clear_from_source, source_strength}
use Rattle.vrt_model.proofs.Laws.{one_strength, shows_from}
use Rattle.vrt_model.proofs.Members.{all_among}
use Rattle.vrt_model.proofs.Networks.{given_source, network_levels}
use Rattle.vrt_model.proofs.Ranked.{plain_not_given}
use Rattle.vrt_model.proofs.Scales.{least_below}
use Rattle.vrt_model.specs.Circuits.{IsHold}
use Rattle.vrt_model.specs.Known.{IsPlain}
use Rattle.vrt_model.specs.Levels.{source_level}
use Rattle.vrt_model.specs.Networks.{HasLevels, HasRanges, IsSource}
use Rattle.vrt_model.specs.Path.{Hop, IsPath, IsRoot, Network, Root, end_of}
use Rattle.vrt_model.specs.Response.{IsClear, IsResponse, Reaches, Shows}
use Rattle.vrt_model.specs.State.{State, network_of}
use Rattle.vrt_model.specs.declared.circuit.Circuit.{Circuit}
use Rattle.vrt_model.specs.declared.whole.WholePin.{WholePin}

module _ (c : Circuit) (ranges : HasRanges c) (pins_plain : ArePinsPlain c) (bare : Bool) (held : ℕ → Bool) (s : State) where
  abbrev view : Network
  view = network_of c bare held s

  levels : HasLevels view
  levels = network_levels c bare held s ranges

  -- a root of the source level at a given net has the net's bit
  pub root_value : (n : ℕ) → IsGiven c n → (root : Root) → IsRoot view root → root.net ≡ n → root.level ≡ source_level c → root.value ≡ s.reading n
  root_value n g root r e top =
      elim r [
        | inl h ↦ h.4 ∙ ap s.reading e
        | inr other ↦ elim other [
          | inl h ↦ absurd (let same = h.4 in let le = (all_among (IsHold c) c.holds h.1 ranges.holds (h.0, h.2)).size.1 in let below = least_below c in omega (arith, top, same, le, below))
          | inr o ↦
              let out = pin_found c o.0 o.1 o.2 in
              absurd (plain_not_given c n (subst (IsPlain c) (ap (λ (q : WholePin). q.net.0) out.2 ∙ sym o.3 ∙ e) (pins_plain out.0 (o.0, out.1))) g)
        ]
      ]

  pub given_shows : (n : ℕ) → IsGiven c n → IsResponse view n (Shows (s.reading n))
  given_shows n g = shows_from view n (s.reading n) here only
    where
      source : (m : ℕ) → m ≡ n → IsSource view m
      source m e = subst (IsSource view) (sym e) (given_source c bare held s ranges n g.0 g.1 g.2)

      here : Reaches view n (s.reading n)
      here = (record { net = n; level = source_level c; value = s.reading n }, [], inl (g.0, g.1, g.2, refl, refl), source_strength view levels n (source n refl), refl, refl)

      only : (u : Bool) → Reaches view n u → u ≡ s.reading n
      only u (root, hops, p, clear, e, is) =
          let none : hops ≡ [] = clear_from_source view levels root hops p clear (source (end_of root hops) e) in
          let path : IsPath view root [] = subst (IsPath view root) none p in
          let strong : IsClear view root [] = subst (IsClear view root) none clear in
          let ends : root.net ≡ n = subst (λ (hs : List Hop). end_of root hs ≡ n) none e in
          sym is ∙ root_value n g root path ends (one_strength view root.net root.level (source_level c) strong (source_strength view levels root.net (source root.net ends)))
