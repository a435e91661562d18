-- Holds at plain nets that take their bits.
use Rattle.std.proofs.Common.{◌≡◌, ℕ, ◌+◌, ◌<◌, ◌⊎◌, true, List, ap, arith, subst, sym, ◌∙◌, inl, inr}
use Rattle.std.proofs.lemmas.Bool.{cases_eq}
use Rattle.std.proofs.lemmas.Option.{same_Some}
use Rattle.node_pool.specs.declared.region.Span.{Span}
use Rattle.bdd_core.proofs.Frames.{word_beside}
use Rattle.bdd_core.specs.Store.{Diagrams}
use Rattle.bdd_core.specs.Words.{IsApart, Writes, word_at}
use Rattle.known_nets.proofs.NetKinds.{is_plain_is}
use Rattle.known_nets.specs.Conduction.{is_plain_at}
use Rattle.step_roots.specs.Roots.{IsPlainHold}
use Rattle.vrt_model.specs.Lists.{At}
use Rattle.vrt_model.specs.declared.circuit.Circuit.{Circuit}
use Rattle.vrt_model.specs.declared.circuit.Hold.{Hold}

-- one of the first holds is at the net, which is plain
abbrev pub IsEarlyHold : Circuit → List Hold → ℕ → ℕ → Type 0
IsEarlyHold c holds upto n = (at : ℕ) × (hold : Hold) × (at < upto) × At holds at hold × (hold.net.0 ≡ n) × (is_plain_at c n ≡ true)

-- the nets of these holds have the bits that were asked for, and the others what they had
pub record AreTaken (c : Circuit) (holds : List Hold) (gates roots : Span) (upto : ℕ) (start d : Diagrams) : Type 0 where
  pub taken : (n : ℕ) → IsEarlyHold c holds upto n → word_at d roots n ≡ word_at start gates n
  pub others : (n : ℕ) → ¬ IsEarlyHold c holds upto n → word_at d roots n ≡ word_at start roots n

module _ (c : Circuit) (holds : List Hold) (gates roots : Span) (i : ℕ) (hold : Hold) (start old new : Diagrams) (there : At holds i hold) (apart : IsApart gates roots)
    (sofar : Writes roots start old) (within : hold.net.0 < gates.len)
    (taken : is_plain_at c hold.net.0 ≡ true → word_at new roots hold.net.0 ≡ word_at old gates hold.net.0)
    (others : (k : ℕ) → ¬ ((k ≡ hold.net.0) × (is_plain_at c hold.net.0 ≡ true)) → word_at new roots k ≡ word_at old roots k) where
  -- the hold itself, or one before it
  last_or_early : (n : ℕ) → IsEarlyHold c holds (i + 1) n → (hold.net.0 ≡ n) ⊎ IsEarlyHold c holds i n
  last_or_early n early =
      elim (cases_eq early.0 i) [
        | inl e ↦ inl (
            let same : hold ≡ early.1 = same_Some hold early.1 (sym there ∙ subst (λ (j : ℕ). At holds j early.1) e early.3) in
            ap (λ (h : Hold). h.net.0) same ∙ early.4
            )
        | inr ne ↦ inr (early.0, early.1, (let lt = early.2 in omega (arith, lt, ne)), early.3, early.4, early.5)
      ]

  here : (n : ℕ) → hold.net.0 ≡ n → is_plain_at c n ≡ true → word_at new roots n ≡ word_at start gates n
  here n e plain =
      let bit : word_at new roots hold.net.0 ≡ word_at start gates hold.net.0 =
      taken (subst (λ (m : ℕ). is_plain_at c m ≡ true) (sym e) plain) ∙ word_beside roots gates start old hold.net.0 sofar apart within in
      subst (λ (m : ℕ). word_at new roots m ≡ word_at start gates m) e bit

  pub one_taken : AreTaken c holds gates roots i start old → AreTaken c holds gates roots (i + 1) start new
  one_taken before = record {
    taken = λ n early. elim (cases_eq hold.net.0 n) [
      | inl e ↦ here n e early.5
      | inr ne ↦ elim (last_or_early n early) [
        | inl e ↦ absurd (ne e)
        | inr sooner ↦ others n (λ p. ne (sym p.0)) ∙ before.taken n sooner
      ]
    ];
    others = λ n never.
        others n (λ p. never (i, hold, omega arith, there, sym p.0, subst (λ (m : ℕ). is_plain_at c m ≡ true) (sym p.0) p.1))
        ∙ before.others n (λ early. never (early.0, early.1, (let lt = early.2 in omega (arith, lt)), early.3, early.4, early.5));
  }

-- all holds
module _ (c : Circuit) (gates roots : Span) (upto : ℕ) (start d : Diagrams) (are : AreTaken c c.holds gates roots upto start d) (all : (at : ℕ) (hold : Hold) → At c.holds at hold → at < upto) where
  pub all_taken : (n : ℕ) → IsPlainHold c n → word_at d roots n ≡ word_at start gates n
  all_taken n is = are.taken n (is.0, is.1, all is.0 is.1 is.2, is.2, is.3, is_plain_is c n is.4)
