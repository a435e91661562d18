-- Bits of which each follows from those before it: one more is settled at a time, and there is exactly one choice.
use Rattle.std.proofs.Common.{◌≡◌, ℕ, zero, suc, ◌+◌, ◌<◌, ◌≤◌, Bool, false, cond, List, length, get_or, eqb, arith, ap, subst, sym, refl, ◌∙◌, inl, inr}
use Rattle.std.proofs.lemmas.Bool.{cases_eq, eq-eqb, ne_eqb}
use Rattle.std.proofs.lemmas.Option.{slice_get-get_or}
use Rattle.vrt_model.proofs.Lists.{one_at}
use Rattle.blif_eval.specs.Settled.{Agree, AreFixed}
use Rattle.vrt_model.specs.Lists.{At}

-- a value looks only at what stands before, where that is settled
abbrev pub IsLocal : List ℕ → ((ℕ → Bool) → ℕ → Bool) → Type 0
IsLocal steps value = (k n : ℕ) (bits others : ℕ → Bool) → At steps k n → AreFixed steps value k bits → Agree steps k bits others → value bits n ≡ value others n

module _ (steps : List ℕ) (once : (i j n : ℕ) → At steps i n → At steps j n → i ≡ j) (value : (ℕ → Bool) → ℕ → Bool) (local : IsLocal steps value) where
  fixed_less : (k j : ℕ) (bits : ℕ → Bool) → j ≤ k → AreFixed steps value k bits → AreFixed steps value j bits
  fixed_less k j bits le fixed i n lt here = fixed i n (omega (arith, lt, le)) here

  -- one more bit takes its value
  pub fixed_next : (bits others : ℕ → Bool) (at t : ℕ) → At steps at t → AreFixed steps value at bits
      → ((j n : ℕ) → At steps j n → (n ≡ t → ⊥) → others n ≡ bits n) → others t ≡ value bits t → AreFixed steps value (at + 1) others
  fixed_next bits others at t there fixed same takes j n lt here = elim (cases_eq j at) [
    | inl e ↦
        let is : n ≡ t = one_at steps at n t (subst (λ (i : ℕ). At steps i n) e here) there in
        subst (λ (x : ℕ). others x ≡ value others x) (sym is) (takes ∙ local at t bits others there fixed (agree at (omega arith)))
    | inr ne ↦
        let before : j < at = omega (arith, lt, ne) in
        sym (agree at (omega arith) j n before here)
        ∙ (fixed j n before here ∙ local j n bits others here (fixed_less at j bits (omega (arith, before)) fixed) (agree j (omega (arith, before))))
  ]
    where
      agree : (k : ℕ) → k ≤ at → Agree steps k bits others
      agree k le i m less there_i = sym (same i m there_i (λ is.
          let place = once i at t (subst (At steps i) is there_i) there in omega (arith, place, less, le)))

  -- settled bits agree
  pub agree_to : (bound : ℕ) (bits others : ℕ → Bool) → AreFixed steps value bound bits → AreFixed steps value bound others → Agree steps bound bits others
  agree_to zero bits others one two j n lt here = absurd (omega (arith, lt))
  agree_to (suc bound) bits others one two j n lt here =
      one j n lt here
      ∙ (local j n bits others here (fixed_less (suc bound) j bits (omega (arith, lt)) one)
      (λ i m less there. agree_to bound bits others (fixed_less (suc bound) bound bits (omega arith) one) (fixed_less (suc bound) bound others (omega arith) two) i m
      (omega (arith, less, lt)) there)
      ∙ sym (two j n lt here))

  -- there are settled bits
  made : ℕ → ℕ → Bool
  made zero n = false
  made (suc k) n = cond (eqb n (get_or steps k 0)) (value (made k) n) (made k n)

  made_fixed : (k : ℕ) → k ≤ length steps → AreFixed steps value k (made k)
  unfolding made
  made_fixed zero le j n lt here = absurd (omega (arith, lt))
  made_fixed (suc k) le j n lt here =
      let t : ℕ = get_or steps k 0 in
      let there : At steps k t = slice_get-get_or steps k 0 (omega (arith, le)) in
      let more : AreFixed steps value (k + 1) (made (suc k)) =
      fixed_next (made k) (made (suc k)) k t there (made_fixed k (omega (arith, le)))
      (λ i m there_i ne. ap (λ (b : Bool). cond b (value (made k) m) (made k m)) (ne_eqb m t ne))
      (ap (λ (b : Bool). cond b (value (made k) t) (made k t)) (eq-eqb t t refl)) in
      more j n (omega (arith, lt)) here

  pub some_fixed : (bits : ℕ → Bool) × AreFixed steps value (length steps) bits
  some_fixed = (made (length steps), made_fixed (length steps) (omega arith))
