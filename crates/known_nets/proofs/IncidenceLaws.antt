-- The devices of a circuit by net: one device more, and the nets with holds.
use Rattle.std.proofs.Common.{◌≡◌, ℕ, ◌+◌, List, arith, ap, inl, inr, subst, sym, ◌∙◌}
use Rattle.std.proofs.lemmas.Option.{same_Some}
use Rattle.known_nets.proofs.PlaceLaws.{below_or_at}
use Rattle.known_nets.specs.Incidence.{HasEnds, HasGates}
use Rattle.known_nets.specs.Placed.{Adds, IsArc}
use Rattle.vrt_model.specs.Lists.{At}
use Rattle.vrt_model.specs.Path.{Joins}
use Rattle.vrt_model.specs.declared.circuit.Circuit.{Circuit}
use Rattle.vrt_model.specs.declared.circuit.Device.{Device}

-- one device more at its two nets
pub more_ends : (c : Circuit) (at : ℕ) (d : Device) (old mid new : List (List ℕ)) → At c.devices at d → Adds (IsArc at d.left.0) old mid → Adds (IsArc at d.right.0) mid new
    → HasEnds c at old → HasEnds c (at + 1) new
more_ends c at d old mid new there left right so k e lt here m n j inside =
    let one = left.count in
    let two = right.count in
    elim (below_or_at at k lt) [
      | inl low ↦ right.stays k n (left.stays k n (so k e low here m n j (omega (arith, inside, one, two))))
      | inr same ↦
          let is : d ≡ e = same_Some d e (sym there ∙ subst (λ (x : ℕ). At c.devices x e) same here) in
          elim (subst (λ (x : Device). Joins x m n) (sym is) j) [
            | inl ends ↦ right.joined k n (same, sym ends.1) (omega (arith, inside, two))
            | inr ends ↦ right.stays k n (left.joined k n (same, sym ends.0) (omega (arith, inside, one, two)))
          ]
    ]

-- one device more at the net that gates it
pub more_gates : (c : Circuit) (at : ℕ) (d : Device) (old new : List (List ℕ)) → At c.devices at d → Adds (IsArc at d.gate.0) old new → HasGates c at old → HasGates c (at + 1) new
more_gates c at d old new there added so k e lt here inside =
    let one = added.count in
    elim (below_or_at at k lt) [
      | inl low ↦ added.stays k e.gate.0 (so k e low here (omega (arith, inside, one)))
      | inr same ↦
          let is : d ≡ e = same_Some d e (sym there ∙ subst (λ (x : ℕ). At c.devices x e) same here) in
          added.joined k e.gate.0 (same, ap (λ (x : Device). x.gate.0) (sym is)) (omega (arith, inside, one))
    ]
