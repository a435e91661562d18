-- Circuits in which each device leads to a supply: each plain net is a part of its own, and where an order of nets rises at each device and
-- each link there is no cycle.
use Rattle.std.proofs.Common.{◌≡◌, ℕ, ◌<◌, ◌≤◌, Bool, true, List, [], ◌∷◌, refl, ap, sym, ◌∙◌, subst, arith, inl, inr}
use Rattle.std.proofs.lemmas.Bool.{false≢true}
use Rattle.std.proofs.lemmas.Option.{same_Some}
use Rattle.vrt_model.proofs.Ranked.{together_plain}
use Rattle.vrt_model.specs.Known.{HasArc, HasGateArc, HasWholeArc, IsPlain, IsTogether, IsWalk, is_plain_kind, itself, onward}
use Rattle.vrt_model.specs.Lists.{Among, At}
use Rattle.vrt_model.specs.Reading.{devices_of}
use Rattle.vrt_model.specs.Unsupported.{IsAcyclic}
use Rattle.vrt_model.specs.declared.circuit.Circuit.{Circuit}
use Rattle.vrt_model.specs.declared.circuit.Device.{Device}
use Rattle.vrt_model.specs.declared.circuit.FlatNet.{FlatNet}
use Rattle.vrt_model.specs.declared.circuit.NetKind.TheVariants.{Supply}
use Rattle.vrt_model.specs.declared.rules.Phase.{Phase}

-- ---- arcs that rise

module _ (Arc : ℕ → ℕ → Type 0) (order : ℕ → ℕ) (rises : (n m : ℕ) → Arc n m → order n < order m) where
  walk_rises : (n : ℕ) (nets : List ℕ) (last : ℕ) → IsWalk Arc n nets last → order n ≤ order last
  walk_rises n [] last e = let same = ap order e in omega (arith, same)
  walk_rises n (m ∷ nets) last walk = let first = rises n m walk.0 in let rest = walk_rises m nets last walk.1 in omega (arith, first, rest)

  pub rising_arcs_are_acyclic : IsAcyclic Arc
  rising_arcs_are_acyclic [] cycle = cycle
  rising_arcs_are_acyclic (n ∷ nets) cycle =
      let up = walk_rises n nets cycle.0 cycle.1 in
      let back = rises cycle.0 n cycle.2 in absurd (omega (arith, up, back))

-- ---- the circuit

-- a net that is plain is no supply
plain_no_supply : (c : Circuit) (n : ℕ) (value : Bool) → IsPlain c n → (net : FlatNet) → At c.nets n net → net.kind ≡ Supply value → ⊥
plain_no_supply c n value plain net e kind =
    let same = sym kind ∙ ap (λ (x : FlatNet). x.kind) (same_Some net plain.0 (sym e ∙ plain.1)) ∙ plain.2 in
    false≢true (ap is_plain_kind same)

-- each device leads to a supply
abbrev pub IsSupplied : Circuit → Type 0
IsSupplied c = (d : Device) → Among (devices_of true c) d → (net : FlatNet) × (value : Bool) × At c.nets d.right.0 net × (net.kind ≡ Supply value)

module _ (c : Circuit) (phase : Phase) (supplied : IsSupplied c) where
  not_right : (d : Device) (n : ℕ) → Among (devices_of true c) d → IsPlain c n → d.right.0 ≡ n → ⊥
  not_right d n on plain e =
      let s = supplied d on in
      plain_no_supply c n s.1 plain s.0 (subst (λ (m : ℕ). At c.nets m s.0) e s.2) s.3

  -- so parts are single nets
  pub alone : (n m : ℕ) → IsTogether c phase true n m → n ≡ m
  alone n m (itself plain) = refl
  alone n m (onward d t channel (inl j) plain) = absurd (not_right d m channel.0 plain j.1)
  alone n m (onward {l} d t channel (inr j) plain) = absurd (not_right d l channel.0 (together_plain c phase true n l t) j.1)

  -- ---- arcs

  pub gate_arc : (n m : ℕ) → HasGateArc c phase n m → (d : Device) × Among (devices_of true c) d × (d.gate.0 ≡ n) × (d.left.0 ≡ m)
  gate_arc n m (d, (l, o, t, channel, inl j), gate, free) = (d, channel.0, gate, j.0 ∙ sym (alone m l t))
  gate_arc n m (d, (l, o, t, channel, inr j), gate, free) = absurd (not_right d l channel.0 (together_plain c phase true m l t) j.1)

  pub is_acyclic : (order : ℕ → ℕ) → ((d : Device) → Among (devices_of true c) d → order d.gate.0 < order d.left.0) → ((n m : ℕ) → HasWholeArc c phase n m → order n < order m)
      → IsAcyclic (HasArc c phase)
  is_acyclic order gates links = rising_arcs_are_acyclic (HasArc c phase) order by_arc
    where
      by_arc : (n m : ℕ) → HasArc c phase n m → order n < order m
      by_arc n m (inl gate) =
          let d = gate_arc n m gate in
          let up = gates d.0 d.1 in
          let low = ap order d.2 in
          let high = ap order d.3 in
          omega (arith, up, low, high)
      by_arc n m (inr link) = links n m link
