-- What the tests of a net's words say of its level.
use Rattle.std.proofs.Common.{◌≡◌, ◌≢◌, ℕ, ◌+◌, ◌<◌, ◌≤◌, Bool, true, false, Some, None, arith, refl, sym, ◌∙◌, inl, inr}
use Rattle.std.proofs.lemmas.Bool.{cases_lt, false≢true}
use Rattle.bdd_core.specs.Diagram.{Function, Valuation}
use Rattle.output_levels.specs.Always.{AreStrengths, IsLeastStrength, IsNever, LevelGives}

module _ (source : ℕ) (care : Function) (is_strong : ℕ → Function) (s : Valuation → ℕ) (are : AreStrengths source care is_strong s) (level : ℕ) (least : IsLeastStrength source care is_strong level) where
  at_least : (v : Valuation) → care v ≡ true → level ≤ s v
  at_least v here =
      elim (cases_lt level 1) [
        | inl none ↦ omega (arith, none)
        | inr some ↦ (are.says v level here some least.most).0 (least.always some v here)
      ]

  -- at the greatest level there is no other
  pub gives_greatest : level ≡ source → LevelGives care s (Some source)
  gives_greatest top v here = (let low = at_least v here in let high = are.most v here in omega (arith, low, high, top))

  -- where it is never above the least strength, it is always that
  pub gives_level : level ≢ source → IsNever care (is_strong (level + 1)) → LevelGives care s (Some level)
  gives_level other never v here =
      let low = at_least v here in
      let most = least.most in
      let upper : level + 1 ≤ source = omega (arith, most, other) in
      elim (cases_lt level (s v)) [
        | inl more ↦ absurd (false≢true (sym (never v here) ∙ (are.says v (level + 1) here (omega arith) upper).1 (omega (arith, more))))
        | inr same ↦ omega (arith, low, same)
      ]

  -- where it is sometimes above, it is no one level
  pub gives_none : level ≢ source → (¬ IsNever care (is_strong (level + 1))) → LevelGives care s None
  gives_none other sometimes one all =
      let most = least.most in
      let below : level < source = omega (arith, most, other) in
      elim (cases_lt level one) [
        | inl more ↦ least.above below (λ v here. (let is = all v here in (are.says v (level + 1) here (omega arith) (omega (arith, below))).1 (omega (arith, more, is))))
        | inr less ↦ sometimes (λ v here.
            let is = all v here in
            not_strong v here (λ e. (let up = (are.says v (level + 1) here (omega arith) (omega (arith, below))).0 e in omega (arith, up, is, less))))
      ]
    where
      not_strong : (v : Valuation) → care v ≡ true → (is_strong (level + 1) v ≡ true → ⊥) → is_strong (level + 1) v ≡ false
      not_strong v here never = by_bit (is_strong (level + 1) v) never
        where
          by_bit : (b : Bool) → (b ≡ true → ⊥) → b ≡ false
          by_bit true never = absurd (never refl)
          by_bit false never = refl
