-- Two networks of a part with no root at its nets, whose gates and given ends show the same: what reaches its nets is the same in both.
use Rattle.std.proofs.Common.{◌≡◌, ℕ, ◌⊎◌, Bool, true, arith, refl, sym, subst, ◌∙◌, inl, inr}
use Rattle.std.specs.Prelude.{◌↔◌}
use Rattle.node_pool.specs.declared.region.Span.{Span}
use Rattle.bdd_core.specs.Diagram.{Valuation}
use Rattle.bdd_core.specs.Store.{Diagrams}
use Rattle.bdd_core.specs.Words.{shows}
use Rattle.channel_parts.specs.declared.part.Part.{Part}
use Rattle.path_fixpoint.proofs.PinLaws.{pin_ranges}
use Rattle.path_fixpoint.proofs.ReachLaws.{levels_of}
use Rattle.path_fixpoint.proofs.SolveLaws.{stands_here}
use Rattle.path_fixpoint.proofs.SourceLevels.{drive_below, hold_below}
use Rattle.path_fixpoint.specs.Parts.{AreSoftInside, IsGiven, IsPart, part_devices}
use Rattle.path_fixpoint.specs.Solved.{network_at}
use Rattle.path_fixpoint.specs.Strengths.{circuit_words}
use Rattle.path_fixpoint.specs.declared.words.NetWords.{NetWords}
use Rattle.part_functions.specs.Small.{IsEnd, IsInside, IsRootless}
use Rattle.vrt_model.proofs.Bounded.{reaches_inside}
use Rattle.vrt_model.proofs.Members.{all_among}
use Rattle.vrt_model.specs.Circuits.{IsHold}
use Rattle.vrt_model.specs.Levels.{source_level}
use Rattle.vrt_model.specs.Lists.{Among}
use Rattle.vrt_model.specs.Networks.{Covers, HasLevels, HasRanges}
use Rattle.vrt_model.specs.Path.{Joins}
use Rattle.vrt_model.specs.Reading.{conducts_at}
use Rattle.vrt_model.specs.Response.{Reaches}
use Rattle.vrt_model.specs.declared.circuit.Circuit.{Circuit}
use Rattle.vrt_model.specs.declared.circuit.Device.{Device}
use Rattle.vrt_model.specs.declared.ids.Net.{Net}

module _ (c : Circuit) (part : Part) (is_part : IsPart c part) (ranges : HasRanges c) (gates roots : Span) (rootless : IsRootless c part) (soft : AreSoftInside c part) where
  abbrev some_words : NetWords
  some_words = circuit_words c gates

  levels_at : (d : Diagrams) (v : Valuation) → HasLevels (network_at d c part gates roots v)
  levels_at d v =
      levels_of c part is_part ranges gates roots some_words true d v (network_at d c part gates roots v)
      (stands_here c part is_part ranges gates roots some_words d v)

  inside_of : (n : ℕ) (net : Net) → Among part.nets net → net.0 ≡ n → IsInside part n
  inside_of n net m e = (m.0, (net, m.1, e))

  -- an end of a device is in the part or given
  end_of_device : (d : Device) (m : ℕ) (net : Net) → Among (part_devices c part) d → (d.left.0 ≡ m) ⊎ (d.right.0 ≡ m) → net.0 ≡ m → Among part.nets net ⊎ IsGiven c net.0
      → IsInside part m ⊎ IsEnd c part m
  end_of_device d m net on at e which = elim which [
    | inl i ↦ inl (inside_of m net i e)
    | inr g ↦ inr (d, on, at, subst (IsGiven c) e g)
  ]

  bounded : (d : Device) (m n : ℕ) → Among (part_devices c part) d → Joins d m n → IsInside part m ⊎ IsEnd c part m
  bounded d m n on j = elim j [
    | inl e ↦ end_of_device d m d.left on (inl e.0) e.0 (is_part.left d on)
    | inr e ↦ end_of_device d m d.right on (inr e.1) e.1 (is_part.right d on)
  ]

  -- the one at one valuation of one store, and the other at another of another
  module _ (a b : Diagrams) (v w : Valuation) (gates_same : (d : Device) → Among (part_devices c part) d → shows a gates d.gate.0 v ≡ shows b gates d.gate.0 w)
      (ends_same : (n : ℕ) → IsEnd c part n → shows a roots n v ≡ shows b roots n w) where
    covers : Covers (network_at a c part gates roots v) (network_at b c part gates roots w) (IsInside part) (IsEnd c part)
    covers = record {
      source = refl;
      roots = λ r from in_it. elim from [
        | inl g ↦ elim in_it [
          | inl i ↦ absurd (rootless.given r.net i (g.0, g.1, g.2))
          | inr e ↦ inl (g.0, g.1, g.2, g.3, g.4 ∙ ends_same r.net e.0)
        ]
        | inr other ↦ elim other [
          | inl h ↦ elim in_it [
            | inl i ↦ absurd (rootless.holds h.1 (h.0, h.2) (subst (IsInside part) h.3 i))
            | inr e ↦ absurd (let small = hold_below c h.1.size (all_among (IsHold c) c.holds h.1 ranges.holds (h.0, h.2)).size in let top : r.level ≡ source_level c = e.1 in let is = h.4 in omega (arith, small.1, top, is))
          ]
          | inr o ↦ elim in_it [
            | inl i ↦ absurd (rootless.pins o.1 (o.0, o.2) (subst (IsInside part) o.3 i))
            | inr e ↦ elim (drive_below c o.1.drive (pin_ranges c o.1 ranges (o.0, o.2)).1) [
              | inl is_soft ↦ absurd (rootless.pins o.1 (o.0, o.2) (soft o.1 (o.0, o.2) is_soft (subst (IsGiven c) o.3 e.0.3)))
              | inr low ↦ absurd (let top : r.level ≡ source_level c = e.1 in let is = o.4 in omega (arith, low, top, is))
            ]
          ]
        ]
      ];
      devices = λ m n d on j i. (on.0, subst (λ (bit : Bool). conducts_at d.kind bit ≡ true) (gates_same d on.0) on.1);
      bounded = λ m n d on j i. bounded d m n on.0 j;
      edge = λ n e. (record { net = n; level = source_level c; value = shows a roots n v }, inl (e.3.0, e.3.1, e.3.2, refl, refl), refl, refl);
    }

  -- what reaches a net of the part
  pub reach_same : (a b : Diagrams) (v w : Valuation) → ((d : Device) → Among (part_devices c part) d → shows a gates d.gate.0 v ≡ shows b gates d.gate.0 w)
      → ((n : ℕ) → IsEnd c part n → shows a roots n v ≡ shows b roots n w)
      → (n : ℕ) (value : Bool) → IsInside part n → Reaches (network_at a c part gates roots v) n value ↔ Reaches (network_at b c part gates roots w) n value
  reach_same a b v w gates_same ends_same n value i =
      let there = covers a b v w gates_same ends_same in
      let back = covers b a w v (λ d m. sym (gates_same d m)) (λ k e. sym (ends_same k e)) in (
        reaches_inside (network_at a c part gates roots v) (network_at b c part gates roots w) (IsInside part) (IsEnd c part) (levels_at a v) (levels_at b w) there back n value i,
        reaches_inside (network_at b c part gates roots w) (network_at a c part gates roots v) (IsInside part) (IsEnd c part) (levels_at b w) (levels_at a v) back there n value i,
      )
