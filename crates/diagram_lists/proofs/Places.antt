-- The functions of places, of the bits of the variables from one on, and tests of them.
use Rattle.std.proofs.Common.{◌≡◌, ℕ, zero, suc, ◌+◌, ◌-◌, ◌<◌, ◌≤◌, ◌≢◌, Bool, true, false, List, [], ◌∷◌, length, eqb, refl, sym, ap, ◌∙◌, inl, inr, arith}
use mathlib.Core.Path.{fun_ext}
use Rattle.std.proofs.lemmas.Bool.{cases_eq, cases_lt, eq-eqb, ne_eqb}
use Rattle.bdd_core.proofs.Bound.{within_place}
use Rattle.bdd_core.proofs.Canonical.{canonical, hi_by_bit, independent, lo_by_bit, top_end, top_is, with_bit_here, with_bit_other}
use Rattle.bdd_core.proofs.Growth.{splice_early, splice_late}
use Rattle.bdd_core.proofs.Meaning.{meaning_one, meaning_zero}
use Rattle.bdd_core.specs.Diagram.{IsReduced, Valuation, meaning, node_at as diagram_node, splice, top, with_bit}
use Rattle.diagram_lists.specs.Listed.{bits_from}
use Rattle.node_pool.specs.declared.region.Node.{Node as DiagramNode}
use Rattle.vrt_model.specs.Lists.{bit_at}
use Rattle.written_models.proofs.NodeBits.{same_at}
use Rattle.written_models.proofs.NodeOrder.{all_same}
use Rattle.written_models.specs.Functions.{Function, all_bits, are_same, fixed, is_constant}

-- ---- the bits of a valuation

-- those of so many variables, from one on
abbrev bits_behind : ℕ → ℕ → Valuation → List Bool
bits_behind first zero v = []
bits_behind first (suc n) v = v first ∷ bits_behind (suc first) n v

behind_length : (first n : ℕ) (v : Valuation) → length (bits_behind first n v) ≡ n
behind_length first zero v = refl
behind_length first (suc n) v = ap suc (behind_length (suc first) n v)

behind_at : (first n j : ℕ) (v : Valuation) → j < n → bit_at (bits_behind first n v) j ≡ v (first + j)
behind_at first zero j v lt = absurd (omega (arith, lt))
behind_at first (suc n) zero v lt = (let e : first ≡ first + 0 = omega arith in ap v e)
behind_at first (suc n) (suc j) v lt = (let e : suc first + j ≡ first + suc j = omega arith in behind_at (suc first) n j v (omega (arith, lt)) ∙ ap v e)

-- one bit before the others
first_bit : (t : ℕ) (b : Bool) (bits : List Bool) (x : ℕ) → t ≤ x → bits_from t (b ∷ bits) x ≡ with_bit (bits_from (suc t) bits) t b x
first_bit t b bits x le = elim (cases_eq x t) [
  | inl here ↦ (let e : x - t ≡ 0 = omega (arith, here) in ap (bit_at (b ∷ bits)) e ∙ sym (ap (with_bit (bits_from (suc t) bits) t b) here ∙ with_bit_here (bits_from (suc t) bits) t b))
  | inr other ↦ (let e : x - t ≡ suc (x - suc t) = omega (arith, le, other) in ap (bit_at (b ∷ bits)) e ∙ sym (with_bit_other (bits_from (suc t) bits) t x b other))
]

-- the function of a place, of the bits of the variables from one on
abbrev pub from : List DiagramNode → ℕ → ℕ → Function
from ns k i = λ bits. meaning ns i (bits_from k bits)

module _ (vars : ℕ) (ns : List DiagramNode) (r : IsReduced vars ns) where
  -- ---- one input

  -- a place that tests a later variable
  pub later : (k i : ℕ) (b : Bool) → i < length ns → k < top ns i → fixed b (from ns k i) ≡ from ns (suc k) i
  later k i b within lt = fun_ext (λ bits. independent vars ns r i within (bits_from k (b ∷ bits)) (bits_from (suc k) bits)
      (λ x le. let e : x - k ≡ suc (x - suc k) = omega (arith, le, lt) in ap (bit_at (b ∷ bits)) e))

  -- a node that tests this one
  pub low_part : (i : ℕ) → 2 ≤ i → i < length ns → fixed false (from ns (top ns i) i) ≡ from ns (suc (top ns i)) (diagram_node ns i).lo
  low_part i high within = fun_ext (λ bits.
      independent vars ns r i within (bits_from (top ns i) (false ∷ bits)) (with_bit (bits_from (suc (top ns i)) bits) (top ns i) false) (first_bit (top ns i) false bits)
      ∙ sym (lo_by_bit vars ns r i high within (bits_from (suc (top ns i)) bits)))

  pub high_part : (i : ℕ) → 2 ≤ i → i < length ns → fixed true (from ns (top ns i) i) ≡ from ns (suc (top ns i)) (diagram_node ns i).hi
  high_part i high within = fun_ext (λ bits.
      independent vars ns r i within (bits_from (top ns i) (true ∷ bits)) (with_bit (bits_from (suc (top ns i)) bits) (top ns i) true) (first_bit (top ns i) true bits)
      ∙ sym (hi_by_bit vars ns r i high within (bits_from (suc (top ns i)) bits)))

  -- ---- tests

  -- the bits of a valuation show the function there
  whole : (k left i : ℕ) → k + left ≡ vars → i < length ns → k ≤ top ns i → (v : Valuation) → from ns k i (bits_behind k left v) ≡ meaning ns i v
  whole k left i fits within le v =
      let shown : Valuation = bits_from k (bits_behind k left v) in
      independent vars ns r i within shown (splice k v shown) (λ x up. sym (splice_late k v shown x (omega (arith, le, up))))
      ∙ within_place vars vars ns i r (λ j high below. omega (arith, top_is vars ns r j, (r.proper j high below).var_below)) within (splice k v shown) v
      (λ x below. elim (cases_lt x k) [
        | inl low ↦ splice_early k v shown x low
        | inr up ↦ splice_late k v shown x up ∙ behind_at k left (x - k) v (omega (arith, fits, below, up)) ∙ (let e : k + (x - k) ≡ x = omega (arith, up) in ap v e)
      ])

  module _ (k left : ℕ) (fits : k + left ≡ vars) where
    -- two places have the same function exactly where they are one
    pub same_test : (i j : ℕ) → i < length ns → j < length ns → k ≤ top ns i → k ≤ top ns j → are_same left (from ns k i) (from ns k j) ≡ eqb i j
    same_test i j in_i in_j le le' = elim (cases_eq i j) [
      | inl here ↦ ap (λ (m : ℕ). are_same left (from ns k m) (from ns k j)) here ∙ all_same (from ns k j) (all_bits left) ∙ sym (eq-eqb i j here)
      | inr other ↦ apart (are_same left (from ns k i) (from ns k j)) refl other
    ]
      where
        apart : (b : Bool) → are_same left (from ns k i) (from ns k j) ≡ b → i ≢ j → b ≡ eqb i j
        apart false e other = sym (ne_eqb i j other)
        apart true e other = absurd (other (canonical vars ns r i j in_i in_j
            (λ v. sym (whole k left i fits in_i le v) ∙ same_at left (from ns k i) (from ns k j) (bits_behind k left v) e (behind_length k left v) ∙ whole k left j fits in_j le' v)))

    k_fits : k ≤ vars
    k_fits = omega (arith, fits)

    -- a place is a constant exactly where it is that end
    pub zero_test : (i : ℕ) → i < length ns → k ≤ top ns i → is_constant left false (from ns k i) ≡ eqb i 0
    zero_test i within le =
        (let e : from ns k 0 ≡ (λ bits. false) = fun_ext (λ bits. meaning_zero ns (bits_from k bits)) in ap (are_same left (from ns k i)) (sym e))
        ∙ same_test i 0 within (omega (arith, r.ends)) le (omega (arith, k_fits, top_end vars ns r 0 (omega arith)))

    pub one_test : (i : ℕ) → i < length ns → k ≤ top ns i → is_constant left true (from ns k i) ≡ eqb i 1
    one_test i within le =
        (let e : from ns k 1 ≡ (λ bits. true) = fun_ext (λ bits. meaning_one ns (bits_from k bits)) in ap (are_same left (from ns k i)) (sym e))
        ∙ same_test i 1 within (omega (arith, r.ends)) le (omega (arith, k_fits, top_end vars ns r 1 (omega arith)))
