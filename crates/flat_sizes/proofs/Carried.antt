-- Products of numbers that are carried up to the greatest.
use Rattle.std.proofs.Common.{◌≡◌, ◌<◌, ◌≤◌, ◌-◌, ◌*◌, ◌^◌, ℕ, zero, suc, refl, ap, sym, ◌∙◌, arith, inl, inr}
use Rattle.std.proofs.Math.Nat.{le-mul_of_pos_right, mul-zero}
use Rattle.std.proofs.lemmas.Bool.{cases_lt}
use Rattle.vrt_model.specs.Unsupported.{carried}

large : (a c x y : ℕ) → c ≡ carried a → 2 ^ 64 - 1 < a → c ≤ x → a ≤ y → carried x ≡ carried y
large a c x y e many f g = omega (arith, e, many, f, g)

small : (a : ℕ) → a ≤ 2 ^ 64 - 1 → carried a ≡ a
small a few = omega (arith, few)

-- a product of a carried number
pub carried_times : (a b : ℕ) → carried (carried a * b) ≡ carried (a * b)
carried_times a zero = ap carried (mul-zero (carried a) ∙ sym (mul-zero a))
carried_times a (suc b) =
    elim (cases_lt (2 ^ 64 - 1) a) [
      | inl many ↦ large a (carried a) (carried a * suc b) (a * suc b) refl many (le-mul_of_pos_right (carried a) (omega arith)) (le-mul_of_pos_right a (omega arith))
      | inr few ↦ ap (λ (n : ℕ). carried (n * suc b)) (small a (omega (arith, few)))
    ]
