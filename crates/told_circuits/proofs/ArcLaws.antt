-- Along which arcs the ranks of a circuit rise can be told.
use Rattle.std.proofs.Common.{◌≡◌, ℕ, ◌⊎◌, Bool, true, Option, refl, subst, sym, inl, inr}
use Rattle.known_nets.specs.KnownTables.{IsKnownTable}
use Rattle.told_circuits.proofs.Decisions.{IsDecided, as_decided, both_decided, decided_by, either_decided, same_name, same_number, some_at, some_in}
use Rattle.told_circuits.proofs.PartLaws.{may_conduct_decided, together_decided, unknown_decided}
use Rattle.vrt_model.specs.Known.{HasArc, HasGateArc, HasNamedArc, HasRankArc, HasWholeArc, IsChannel, IsKnown, IsTogether, IsUnknown}
use Rattle.vrt_model.specs.Lists.{At, Among}
use Rattle.vrt_model.specs.Reading.{bare, conducts_at, devices_of}
use Rattle.vrt_model.specs.declared.circuit.Circuit.{Circuit}
use Rattle.vrt_model.specs.declared.circuit.Device.{Device}
use Rattle.vrt_model.specs.declared.rules.Phase.{Phase}
use Rattle.vrt_model.specs.declared.whole.Link.{Link}
use Rattle.vrt_model.specs.declared.whole.Whole.{Whole}
use Rattle.vrt_model.specs.declared.whole.WholePin.{WholePin}

module _ (c : Circuit) (phase : Phase) (known : ℕ → Option Bool) (table : IsKnownTable c phase known) where
  -- ---- arcs from gates

  abbrev MayConduct : Device → Type 0
  MayConduct d = (v : Bool) → IsKnown c phase d.gate.0 v → conducts_at d.kind v ≡ true

  -- an end of the device is in the part of a net
  abbrev EndsIn : ℕ → Device → Type 0
  EndsIn n d = IsTogether c phase bare n d.left.0 ⊎ IsTogether c phase bare n d.right.0

  abbrev GatesFrom : ℕ → ℕ → Device → Type 0
  GatesFrom from to d = (MayConduct d × EndsIn to d) × ((d.gate.0 ≡ from) × IsUnknown c phase from)

  gates_decided : (from to : ℕ) (d : Device) → IsDecided (GatesFrom from to d)
  gates_decided from to d =
      both_decided (MayConduct d × EndsIn to d) ((d.gate.0 ≡ from) × IsUnknown c phase from)
      (both_decided (MayConduct d) (EndsIn to d) (may_conduct_decided c phase known table d)
      (either_decided (IsTogether c phase bare to d.left.0) (IsTogether c phase bare to d.right.0)
      (together_decided c phase known table bare to d.left.0) (together_decided c phase known table bare to d.right.0)))
      (both_decided (d.gate.0 ≡ from) (IsUnknown c phase from) (same_number d.gate.0 from) (unknown_decided c phase known table from))

  to_gate_arc : (from to : ℕ) → ((d : Device) × Among (devices_of bare c) d × GatesFrom from to d) → HasGateArc c phase from to
  to_gate_arc from to h =
      let d = h.0 in
      let channel : IsChannel c phase bare d = (h.1, h.2.0.0) in
      elim h.2.0.1 [
        | inl left ↦ (d, (d.left.0, d.right.0, left, channel, inl (refl, refl)), h.2.1.0, h.2.1.1)
        | inr right ↦ (d, (d.right.0, d.left.0, right, channel, inr (refl, refl)), h.2.1.0, h.2.1.1)
      ]

  of_gate_arc : (from to : ℕ) → HasGateArc c phase from to → (d : Device) × Among (devices_of bare c) d × GatesFrom from to d
  of_gate_arc from to h =
      let d = h.0 in
      let part = h.1 in
      let ends : EndsIn to d =
      elim part.4 [
        | inl q ↦ inl (subst (IsTogether c phase bare to) (sym q.0) part.2)
        | inr q ↦ inr (subst (IsTogether c phase bare to) (sym q.1) part.2)
      ] in
      (d, part.3.0, ((part.3.1, ends), (h.2, h.3)))

  pub gate_arc_decided : (from to : ℕ) → IsDecided (HasGateArc c phase from to)
  gate_arc_decided from to =
      as_decided ((d : Device) × Among (devices_of bare c) d × GatesFrom from to d) (HasGateArc c phase from to)
      (to_gate_arc from to) (of_gate_arc from to) (some_in (GatesFrom from to) (gates_decided from to) (devices_of bare c))

  -- ---- arcs over links

  abbrev LinksTo : ℕ → ℕ → Whole → Link → Type 0
  LinksTo from to w link =
      ((link.phase ≡ phase.name) × (link.from.0 ≡ from)) × ((pin : WholePin) × At w.outputs link.output pin × IsTogether c phase bare to pin.net.0)

  links_decided : (from to : ℕ) (w : Whole) (link : Link) → IsDecided (LinksTo from to w link)
  links_decided from to w link =
      both_decided ((link.phase ≡ phase.name) × (link.from.0 ≡ from)) ((pin : WholePin) × At w.outputs link.output pin × IsTogether c phase bare to pin.net.0)
      (both_decided (link.phase ≡ phase.name) (link.from.0 ≡ from) (same_name link.phase phase.name) (same_number link.from.0 from))
      (some_at (λ (pin : WholePin). IsTogether c phase bare to pin.net.0) (λ pin. together_decided c phase known table bare to pin.net.0) w.outputs link.output)

  pub whole_arc_decided : (from to : ℕ) → IsDecided (HasWholeArc c phase from to)
  whole_arc_decided from to =
      as_decided ((w : Whole) × Among c.wholes w × ((link : Link) × Among w.links link × LinksTo from to w link)) (HasWholeArc c phase from to)
      (λ h. (h.0, h.2.0, (h.1, h.2.1, h.2.2.0.0, h.2.2.0.1, h.2.2.1)))
      (λ h. (h.0, h.2.0, (h.1, h.2.1, ((h.2.2, h.2.3), h.2.4))))
      (some_in (λ (w : Whole). (link : Link) × Among w.links link × LinksTo from to w link)
      (λ w. some_in (LinksTo from to w) (links_decided from to w) w.links) c.wholes)

  pub named_arc_decided : (from to : ℕ) → IsDecided (HasNamedArc c phase from to)
  named_arc_decided from to =
      as_decided ((w : Whole) × Among c.wholes w × ((link : Link) × Among w.links link × ((link.named ≡ true) × LinksTo from to w link))) (HasNamedArc c phase from to)
      (λ h. (h.0, h.2.0, h.2.2.0, (h.1, h.2.1, h.2.2.1.0.0, h.2.2.1.0.1, h.2.2.1.1)))
      (λ h. (h.0, h.3.0, (h.1, h.3.1, (h.2, ((h.3.2, h.3.3), h.3.4)))))
      (some_in (λ (w : Whole). (link : Link) × Among w.links link × ((link.named ≡ true) × LinksTo from to w link))
      (λ w. some_in (λ (link : Link). (link.named ≡ true) × LinksTo from to w link)
      (λ link. both_decided (link.named ≡ true) (LinksTo from to w link) (decided_by (link.named ≡ true) link.named (λ e. e, λ e. e)) (links_decided from to w link)) w.links)
      c.wholes)

  -- ---- arcs that count for ranks

  pub rank_arc_decided : (from to : ℕ) → IsDecided (HasRankArc c phase from to)
  rank_arc_decided from to =
      either_decided (HasArc c phase from to × IsUnknown c phase from) (HasNamedArc c phase from to)
      (both_decided (HasArc c phase from to) (IsUnknown c phase from)
      (either_decided (HasGateArc c phase from to) (HasWholeArc c phase from to) (gate_arc_decided from to) (whole_arc_decided from to))
      (unknown_decided c phase known table from))
      (named_arc_decided from to)
