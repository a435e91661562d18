-- The places of a part at which holds stand: no more than the part has nets, where no net has two holds.
use Rattle.std.proofs.Common.{◌≡◌, ◌≢◌, ℕ, ◌+◌, ◌<◌, ◌≤◌, cond, eqb, length, arith, ap, sym, subst, ◌∙◌, inl, inr}
use Rattle.std.proofs.lemmas.Bool.{cases_eq}
use Rattle.bdd_core.proofs.Pigeon.{pigeon}
use Rattle.vrt_model.specs.Lists.{At}
use Rattle.vrt_model.specs.declared.circuit.Circuit.{Circuit}
use Rattle.vrt_model.specs.declared.circuit.Hold.{Hold}
use Rattle.vrt_model.specs.declared.ids.Net.{Net}
use Rattle.channel_parts.specs.declared.part.Part.{Part}
use Rattle.path_fixpoint.specs.Parts.{IsPlace}
use Rattle.path_fixpoint.specs.Spending.{HasOneHold}
use Rattle.path_fixpoint.proofs.Places.{place_in, place_once}

-- different places of a part, so many, with the nets of some of the first holds
pub record HoldPlaces (c : Circuit) (part : Part) (first count : ℕ) : Type 0 where
  pub place : ℕ → ℕ
  pub at : ℕ → ℕ
  pub before : (j : ℕ) → j < count → at j < first
  pub stands : (j : ℕ) → j < count → (hold : Hold) × At c.holds (at j) hold × IsPlace part (place j) hold.net.0
  pub apart : (i j : ℕ) → i < count → j < count → place i ≡ place j → i ≡ j

net_same : (a b : Net) → a.0 ≡ b.0 → a ≡ b
net_same a b e = let build : ℕ → Net = λ n. record { 0 = n } in ap build e

-- x at k, and else what was there
abbrev put : ℕ → ℕ → (ℕ → ℕ) → ℕ → ℕ
put k x f j = cond (eqb j k) x (f j)

put_here : (k x : ℕ) (f : ℕ → ℕ) (j : ℕ) → j ≡ k → put k x f j ≡ x
put_here k x f j here = grind arith

put_other : (k x : ℕ) (f : ℕ → ℕ) (j : ℕ) → j ≢ k → put k x f j ≡ f j
put_other k x f j other = grind arith

module _ (c : Circuit) (part : Part) where
  pub places_none : HoldPlaces c part 0 0
  places_none = record {
    place = λ j. 0;
    at = λ j. 0;
    before = λ j lt. absurd (omega (arith, lt));
    stands = λ j lt. absurd (omega (arith, lt));
    apart = λ i j lt. absurd (omega (arith, lt));
  }

  pub places_less : (first more count : ℕ) → first ≤ more → HoldPlaces c part first count → HoldPlaces c part more count
  places_less first more count le p = record { place = p.place; at = p.at; before = λ j lt. omega (arith, p.before j lt, le); stands = p.stands; apart = p.apart }

  pub places_few : (first count : ℕ) → HoldPlaces c part first count → count ≤ length part.nets
  places_few first count p = pigeon (length part.nets) count p.place (λ j lt. place_in part (p.place j) (p.stands j lt).0.net.0 (p.stands j lt).2) p.apart

  module _ (one : HasOneHold c) (first count x : ℕ) (hold : Hold) (there : At c.holds first hold) (here : IsPlace part x hold.net.0) (p : HoldPlaces c part first count) where
    -- the place is new: a hold before at the same place would be a second one on its net
    fresh : (j : ℕ) → j < count → p.place j ≢ x
    fresh j lt same =
        let s = p.stands j lt in
        let net : s.0.net ≡ hold.net = net_same s.0.net hold.net (place_once part x s.0.net.0 hold.net.0 (subst (λ (i : ℕ). IsPlace part i s.0.net.0) same s.2) here) in
        omega (arith, p.before j lt, one (p.at j) first s.0 hold s.1 there net)

    pub places_more : HoldPlaces c part (first + 1) (count + 1)
    places_more = record {
      place = put count x p.place;
      at = put count first p.at;
      before = λ j lt. elim (cases_eq j count) [
        | inl e ↦ omega (arith, put_here count first p.at j e)
        | inr ne ↦ omega (arith, put_other count first p.at j ne, p.before j (omega (arith, lt, ne)))
      ];
      stands = λ j lt. elim (cases_eq j count) [
        | inl e ↦ (
          hold,
          subst (λ (k : ℕ). At c.holds k hold) (sym (put_here count first p.at j e)) there,
          subst (λ (k : ℕ). IsPlace part k hold.net.0) (sym (put_here count x p.place j e)) here,
        )
        | inr ne ↦
            let s = p.stands j (omega (arith, lt, ne)) in (
              s.0,
              subst (λ (k : ℕ). At c.holds k s.0) (sym (put_other count first p.at j ne)) s.1,
              subst (λ (k : ℕ). IsPlace part k s.0.net.0) (sym (put_other count x p.place j ne)) s.2,
            )
      ];
      apart = λ i j lt lt' same. elim (cases_eq i count) [
        | inl e ↦ elim (cases_eq j count) [
          | inl e' ↦ e ∙ sym e'
          | inr ne' ↦ absurd (fresh j (omega (arith, lt', ne')) (sym (put_other count x p.place j ne') ∙ sym same ∙ put_here count x p.place i e))
        ]
        | inr ne ↦ elim (cases_eq j count) [
          | inl e' ↦ absurd (fresh i (omega (arith, lt, ne)) (sym (put_other count x p.place i ne) ∙ same ∙ put_here count x p.place j e'))
          | inr ne' ↦ p.apart i j (omega (arith, lt, ne)) (omega (arith, lt', ne')) (sym (put_other count x p.place i ne) ∙ same ∙ put_other count x p.place j ne')
        ]
      ];
    }
