-- A function with one variable fixed, part by part.
use Rattle.std.proofs.Common.{◌≡◌, ℕ, ◌<◌, ◌≤◌, ◌≢◌, Bool, true, false, List, length, sym, ap, ◌∙◌, arith, inl, inr}
use mathlib.Core.Path.{fun_ext}
use Rattle.std.proofs.lemmas.Bool.{cases_eq}
use Rattle.node_pool.specs.declared.region.Node.{Node}
use Rattle.bdd_core.specs.Diagram.{with_bit, Valuation, IsSame, IsReduced, meaning, node_at, top, fixed}
use Rattle.bdd_core.proofs.Canonical.{hi_by_bit, lo_by_bit, independent_bit}
use Rattle.bdd_core.proofs.Growth.{IsFrom}
use Rattle.bdd_core.proofs.Steps.{from_meaning}
use Rattle.bdd_core.proofs.Meaning.{meaning_zero, meaning_one}
use Rattle.bdd_core.proofs.Branches.{tests}

-- an end reads nothing
pub end_fixed : (a : List Node) (f x : ℕ) (b : Bool) → f < 2 → IsSame (meaning a f) (fixed (meaning a f) x b)
end_fixed a f x b low v = elim (cases_eq f 0) [
  | inl zero ↦ rw zero (meaning_zero a v ∙ sym (meaning_zero a (with_bit v x b)))
  | inr other ↦ let one : f ≡ 1 = omega (arith, low, other) in rw one (meaning_one a v ∙ sym (meaning_one a (with_bit v x b)))
]

swapped : (v : Valuation) (x y : ℕ) (b c : Bool) → y ≢ x → (z : ℕ) → with_bit (with_bit v x b) y c z ≡ with_bit (with_bit v y c) x b z
swapped v x y b c other z = elim (cases_eq z x) [
  | inl here ↦ let apart : z ≢ y = λ e. other (sym e ∙ here) in grind arith
  | inr off ↦ elim (cases_eq z y) [ inl here ↦ grind arith | inr off' ↦ grind arith ]
]

module _ (vars : ℕ) (a : List Node) (r : IsReduced vars a) (f x : ℕ) (b : Bool) (within : f < length a) where
  -- a later variable is not read
  pub fixed_later : x < top a f → IsSame (meaning a f) (fixed (meaning a f) x b)
  fixed_later later v = sym (independent_bit vars a r f x b within later v)

  pub from_fixed : (y : ℕ) → y ≤ top a f → IsFrom y (fixed (meaning a f) x b)
  from_fixed y le v w same = from_meaning vars a y f r within le (with_bit v x b) (with_bit w x b) (λ z late. elim (cases_eq z x) [
    | inl here ↦ grind arith
    | inr other ↦ let e : v z ≡ w z = same z late in grind arith
  ])

  module _ (high : 2 ≤ f) (n : Node) (is : n ≡ node_at a f) where
    pub at_top : top a f ≡ n.var
    at_top = tests vars a r f within n is

    pub lo_in : n.lo < f
    lo_in = omega (arith, ap (λ m. m.lo) is, (r.proper f high within).lo_below)

    pub hi_in : n.hi < f
    hi_in = omega (arith, ap (λ m. m.hi) is, (r.proper f high within).hi_below)

    lo_bit : (v : Valuation) → meaning a n.lo v ≡ meaning a f (with_bit v n.var false)
    lo_bit v = rw is (lo_by_bit vars a r f high within v ∙ ap (λ y. meaning a f (with_bit v y false)) (at_top ∙ ap (λ m. m.var) is))

    hi_bit : (v : Valuation) → meaning a n.hi v ≡ meaning a f (with_bit v n.var true)
    hi_bit v = rw is (hi_by_bit vars a r f high within v ∙ ap (λ y. meaning a f (with_bit v y true)) (at_top ∙ ap (λ m. m.var) is))

    -- the variable itself
    pub fixed_lo : n.var ≡ x → b ≡ false → IsSame (meaning a n.lo) (fixed (meaning a f) x b)
    fixed_lo here bit v = lo_bit v ∙ ap (λ y. meaning a f (with_bit v y false)) here ∙ ap (λ c. meaning a f (with_bit v x c)) (sym bit)

    pub fixed_hi : n.var ≡ x → b ≡ true → IsSame (meaning a n.hi) (fixed (meaning a f) x b)
    fixed_hi here bit v = hi_bit v ∙ ap (λ y. meaning a f (with_bit v y true)) here ∙ ap (λ c. meaning a f (with_bit v x c)) (sym bit)

    -- the parts of the whole
    pub part_lo : n.var ≢ x → IsSame (fixed (meaning a n.lo) x b) (λ v. fixed (meaning a f) x b (with_bit v n.var false))
    part_lo other v = lo_bit (with_bit v x b) ∙ ap (meaning a f) (fun_ext (swapped v x n.var b false other))

    pub part_hi : n.var ≢ x → IsSame (fixed (meaning a n.hi) x b) (λ v. fixed (meaning a f) x b (with_bit v n.var true))
    part_hi other v = hi_bit (with_bit v x b) ∙ ap (meaning a f) (fun_ext (swapped v x n.var b true other))
