-- Roots that give the settings of a step, from those of an opened phase.
use Rattle.std.proofs.Common.{◌≡◌, ℕ, ◌||◌, Bool, true, false, cond, List, Option, Some, ap, eqb, refl, subst, sym, ◌∙◌, inl, inr}
use Rattle.std.specs.Prelude.{option_and_then, unwrap_or}
use Rattle.std.proofs.lemmas.Bool.{cases_Bool, eqb-true, false≢true}
use Rattle.std.proofs.lemmas.Option.{same_Some}
use Rattle.arrival_laws.specs.Orders.{Nets, Rise, and_now, on_the_way}
use Rattle.circuit_faults.specs.Faults.{IsSettingAt}
use Rattle.domino_order.specs.StepWords.{AreInputs}
use Rattle.domino_order.specs.ThreeSettings.{held_from}
use Rattle.step_roots.specs.Roots.{IsPlainHold}
use Rattle.vrt_model.specs.Known.{HasFixedBit, IsFixed, IsPlain, is_plain_kind}
use Rattle.vrt_model.specs.Lists.{At, has_number}
use Rattle.vrt_model.specs.declared.circuit.Circuit.{Circuit}
use Rattle.vrt_model.specs.declared.circuit.FlatNet.{FlatNet}
use Rattle.vrt_model.specs.declared.circuit.Hold.{Hold}
use Rattle.vrt_model.specs.declared.circuit.NetKind.{NetKind}
use Rattle.vrt_model.specs.declared.circuit.NetKind.TheVariants.{Input}
use Rattle.vrt_model.specs.declared.rules.Phase.{Phase}

-- ---- nets that rise are inputs

input_not_plain : (c : Circuit) (n : ℕ) (net : FlatNet) → At c.nets n net → net.kind ≡ Input → ¬ IsPlain c n
input_not_plain c n net e kind plain =
    false≢true (ap is_plain_kind (sym kind ∙ ap (λ (x : FlatNet). x.kind) (same_Some net plain.0 (sym e ∙ plain.1)) ∙ plain.2))

no_fixed : (phase : Phase) (kind : NetKind) (v : Bool) → kind ≡ Input → HasFixedBit phase kind v → ⊥
no_fixed phase kind v e h = subst (λ (q : NetKind). HasFixedBit phase q v) e h

module _ (c : Circuit) (nets : List ℕ) (inputs : AreInputs c nets) where
  pub plain_stays : (n : ℕ) → has_number nets n ≡ true → ¬ IsPlain c n
  plain_stays n e = (let net = inputs n e in input_not_plain c n net.0 net.1 net.2)

  -- nor does one whose bit is fixed
  pub fixed_other : (phase : Phase) (n : ℕ) (v : Bool) → IsFixed c phase n v → has_number nets n ≡ false
  fixed_other phase n v fixed =
      elim (cases_Bool (has_number nets n)) [
        | inl e ↦ (
            let net = inputs n e in
            absurd (no_fixed phase fixed.0.kind v (ap (λ (x : FlatNet). x.kind) (same_Some fixed.0 net.0 (sym fixed.1 ∙ net.1)) ∙ net.2) fixed.2)
            )
        | inr e ↦ e
      ]

-- ---- the three settings

or_true : (a : Bool) → a || true ≡ true
or_true true = refl
or_true false = refl

or_false : (a : Bool) → a || false ≡ a
or_false true = refl
or_false false = refl

module _ (r : Rise) (inputs : AreInputs r.k.circuit r.nets) where
  abbrev c : Circuit
  c = r.k.circuit

  -- one net more that rose
  pub risen_setting : (root new : ℕ → Bool) (risen : Nets) (held : ℕ → Bool) (p : ℕ) → has_number r.nets p ≡ true → IsSettingAt c root (on_the_way r risen held)
      → ((n : ℕ) (net : FlatNet) → At c.nets n net → new n ≡ cond (eqb p n) true (root n)) → IsSettingAt c new (on_the_way r (and_now risen p) held)
  risen_setting root new risen held p there given is = record {
    inputs = λ n net e kind. elim (cases_Bool (eqb p n)) [
      | inl same ↦
          let here : has_number r.nets n ≡ true = subst (λ (m : ℕ). has_number r.nets m ≡ true) (eqb-true p n same) there in
          ap (λ (t : Bool). cond t (risen n || eqb p n) (r.end.inputs n)) here ∙ ap (λ (t : Bool). risen n || t) same ∙ or_true (risen n)
          ∙ sym (is n net e ∙ ap (λ (t : Bool). cond t true (root n)) same)
      | inr other ↦
          ap (λ (t : Bool). cond (has_number r.nets n) (risen n || t) (r.end.inputs n)) other
          ∙ ap (λ (t : Bool). cond (has_number r.nets n) t (r.end.inputs n)) (or_false (risen n)) ∙ given.inputs n net e kind
          ∙ sym (is n net e ∙ ap (λ (t : Bool). cond t true (root n)) other)
    ];
    held = λ at hold e plain.
        let other : eqb p hold.net.0 ≡ false = elim (cases_Bool (eqb p hold.net.0)) [
          | inl same ↦ absurd (plain_stays c r.nets inputs hold.net.0 (subst (λ (m : ℕ). has_number r.nets m ≡ true) (eqb-true p hold.net.0 same) there) plain)
          | inr differs ↦ differs
        ] in
        given.held at hold e plain ∙ sym (is hold.net.0 plain.0 plain.1 ∙ ap (λ (t : Bool). cond t true (root hold.net.0)) other);
  }

  -- holds that took the bits of their nets
  pub taken_setting : (root new : ℕ → Bool) (risen : Nets) (held bits : ℕ → Bool) → IsSettingAt c root (on_the_way r risen held)
      → ((n : ℕ) → IsPlainHold c n → new n ≡ bits n) → ((n : ℕ) (net : FlatNet) → At c.nets n net → ¬ IsPlainHold c n → new n ≡ root n)
      → IsSettingAt c new (on_the_way r risen (held_from c bits))
  taken_setting root new risen held bits given taken others = record {
    inputs = λ n net e kind. given.inputs n net e kind ∙ sym (others n net e (λ p. input_not_plain c n net e kind p.4));
    held = λ at hold e plain.
        ap (λ (o : Option Hold). unwrap_or (option_and_then (λ (h : Hold). Some (bits h.net.0)) o) false) e
        ∙ sym (taken hold.net.0 (at, hold, e, refl, plain));
  }
