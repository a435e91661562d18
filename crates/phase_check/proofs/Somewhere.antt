-- A function that is not constant 0 is 1 at some valuation of the variables that it reads.
use Rattle.std.proofs.Common.{◌≡◌, ℕ, zero, suc, ◌<◌, ◌⊎◌, Bool, true, false, List, [], ◌∷◌, length, arith, ap, refl, sym, ◌∙◌, inl, inr}
use Rattle.std.specs.Prelude.{◌≢◌}
use Rattle.bdd_core.proofs.Meaning.{meaning_zero}
use Rattle.bdd_core.specs.Diagram.{IsReduced, IsWithin, Valuation}
use Rattle.bdd_core.specs.Store.{Diagrams, IsCanonical, IsLive, function_of}
use Rattle.bdd_core.specs.declared.handle.H.{H}
use Rattle.bdd_ops.specs.Ops.{bits_of}
use Rattle.phase_laws.proofs.EqualPhase.{vacuous_phase}
use Rattle.phase_laws.proofs.Work.{live_within}
use Rattle.phase_terms.specs.Found.{at_bits}
use Rattle.phase_terms.specs.Opened.{IsOpen}
use Rattle.phase_terms.specs.Stores.{IsPhaseStore}
use Rattle.phase_terms.specs.declared.words.PhaseWords.{PhaseWords}
use Rattle.vrt_model.specs.Comparison.{Comparison}
use Rattle.vrt_model.specs.Constraints.{Meets}
use Rattle.vrt_model.specs.Equal.{IsVacuous}
use Rattle.vrt_model.specs.Held.{sources_of}

-- ---- lists of so many bits

-- a test is true of one of them, or of none
abbrev Decides : ℕ → (List Bool → Bool) → Type 0
Decides u test = ((bits : List Bool) × (length bits ≡ u) × (test bits ≡ true)) ⊎ ((bits : List Bool) → length bits ≡ u → test bits ≡ false)

some_or_none : (u : ℕ) (test : List Bool → Bool) → Decides u test
some_or_none zero test = by_bit (test []) refl
  where
    none : test [] ≡ false → (bits : List Bool) → length bits ≡ 0 → test bits ≡ false
    none e [] len = e
    none e (b ∷ bits) len = absurd (omega (arith, len))

    by_bit : (b : Bool) → test [] ≡ b → Decides 0 test
    by_bit true e = inl ([], refl, e)
    by_bit false e = inr (none e)
some_or_none (suc u) test = joined (some_or_none u (λ bits. test (true ∷ bits))) (some_or_none u (λ bits. test (false ∷ bits)))
  where
    longer : (b : Bool) (bits : List Bool) → length bits ≡ u → length (b ∷ bits) ≡ suc u
    longer b bits len = omega (arith, len)

    neither : ((bits : List Bool) → length bits ≡ u → test (true ∷ bits) ≡ false) → ((bits : List Bool) → length bits ≡ u → test (false ∷ bits) ≡ false)
        → (bits : List Bool) → length bits ≡ suc u → test bits ≡ false
    neither one two [] len = absurd (omega (arith, len))
    neither one two (true ∷ bits) len = one bits (omega (arith, len))
    neither one two (false ∷ bits) len = two bits (omega (arith, len))

    joined : Decides u (λ bits. test (true ∷ bits)) → Decides u (λ bits. test (false ∷ bits)) → Decides (suc u) test
    joined (inl h) two = inl (true ∷ h.0, longer true h.0 h.1, h.2)
    joined (inr one) (inl h) = inl (false ∷ h.0, longer false h.0 h.1, h.2)
    joined (inr one) (inr two) = inr (neither one two)

-- the first bits of a valuation
abbrev taken : ℕ → Valuation → List Bool
taken zero v = []
taken (suc u) v = v 0 ∷ taken u (λ x. v (suc x))

taken_len : (u : ℕ) (v : Valuation) → length (taken u v) ≡ u
taken_len zero v = refl
taken_len (suc u) v = (let rest = taken_len u (λ x. v (suc x)) in omega (arith, rest))

taken_bits : (u : ℕ) (v : Valuation) (y : ℕ) → y < u → v y ≡ bits_of (taken u v) y
taken_bits zero v y lt = absurd (omega (arith, lt))
taken_bits (suc u) v zero lt = refl
taken_bits (suc u) v (suc y) lt = taken_bits u (λ x. v (suc x)) y (omega (arith, lt))

-- ---- handles

pub somewhere : (u : ℕ) (d : Diagrams) (h : H) → IsCanonical d → IsReduced d.vars d.nodes → IsLive d h → IsWithin u (function_of d h) → h.0 ≢ 0
    → (bits : List Bool) × (length bits ≡ u) × (at_bits d h bits ≡ true)
somewhere u d h canonical sound live reads some = elim (some_or_none u (at_bits d h)) [
  | inl there ↦ there
  | inr none ↦ absurd (
      let zero_handle : H = record { 0 = 0 } in
      let two = sound.ends in
      some ((canonical h zero_handle live (omega (arith, two))).0
      (λ v. reads v (bits_of (taken u v)) (λ y lt. taken_bits u v y lt) ∙ none (taken u v) (taken_len u v) ∙ sym (meaning_zero d.nodes v)))
      )
]

-- ---- the care set

module _ (k : Comparison) (phase budget a : ℕ) (care : H) (w : PhaseWords) (d : Diagrams) (o : IsOpen k phase care w d) where
  -- where it is that of the constant 0, no valuation meets the constraints
  pub no_care : care.0 ≡ 0 → IsVacuous k phase
  no_care e = vacuous_phase k phase (λ bits. sym (o.care_is bits) ∙ ap (λ (n : ℕ). let h : H = record { 0 = n } in at_bits d h bits) e ∙ meaning_zero d.nodes (bits_of bits))

  -- and else one does
  pub some_care : IsPhaseStore k phase budget a w d → IsCanonical d → IsReduced d.vars d.nodes → care.0 ≢ 0 → (bits : List Bool) × Meets k phase bits
  some_care s canonical sound some =
      let there = somewhere (length (sources_of k phase)) d care canonical sound o.care_live (live_within budget (length (sources_of k phase)) a d care s.used sound o.care_live) some in
      (there.0, record { valuation = there.1; constraints = sym (o.care_is there.0) ∙ there.2 })
