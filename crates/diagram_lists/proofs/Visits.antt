-- What the definition makes of a function of all bits that a place has.
use Rattle.std.proofs.Common.{◌≡◌, ℕ, zero, suc, ◌+◌, ◌<◌, ◌≤◌, Bool, true, false, cond, List, [], length, eqb, refl, sym, ap, ap₂, ◌∙◌, inl, inr, arith}
use Rattle.std.proofs.lemmas.Bool.{cases_lt, eq-eqb, ne_eqb}
use Rattle.bdd_core.proofs.Canonical.{top_end, top_is}
use Rattle.bdd_ops.proofs.Walk.{end_value}
use Rattle.bdd_core.specs.Diagram.{IsReduced, node_at as diagram_node, top}
use Rattle.diagram_lists.proofs.Places.{from, high_part, later, low_part, one_test, same_test, zero_test}
use Rattle.diagram_lists.specs.Listed.{bits_from}
use Rattle.node_pool.specs.declared.region.Node.{Node as DiagramNode}
use Rattle.written_models.specs.Functions.{Function, are_same, fixed, is_constant}

-- ---- a walk by inputs, of any kind: what it gives for the two constants, and for a function that depends on its first input
module _ {A : Type 0} (walk : ℕ → ℕ → Function → A) (zero_gives one_gives : A) (depends : ℕ → ℕ → Function → A)
    (at_end : (input : ℕ) (f : Function) → walk zero input f ≡ cond (f []) one_gives zero_gives)
    (at_input : (left input : ℕ) (f : Function)
    → walk (suc left) input f
    ≡ cond (is_constant (suc left) false f) zero_gives (cond (is_constant (suc left) true f) one_gives
    (cond (are_same left (fixed false f) (fixed true f)) (walk left (suc input) (fixed false f)) (depends left input f))))
    (vars : ℕ) (ns : List DiagramNode) (r : IsReduced vars ns) where
  -- by what the tests of constants are
  by_tests : (left k i : ℕ) (c0 c1 : Bool) → k + suc left ≡ vars → i < length ns → k ≤ top ns i → eqb i 0 ≡ c0 → eqb i 1 ≡ c1
      → walk (suc left) k (from ns k i)
      ≡ cond c0 zero_gives (cond c1 one_gives
      (cond (are_same left (fixed false (from ns k i)) (fixed true (from ns k i))) (walk left (suc k) (fixed false (from ns k i))) (depends left k (from ns k i))))
  by_tests left k i c0 c1 fits within le e0 e1 =
      at_input left k (from ns k i)
      ∙ ap₂ (λ (x y : Bool). cond x zero_gives (cond y one_gives
      (cond (are_same left (fixed false (from ns k i)) (fixed true (from ns k i))) (walk left (suc k) (fixed false (from ns k i))) (depends left k (from ns k i)))))
      (zero_test vars ns r k (suc left) fits i within le ∙ e0) (one_test vars ns r k (suc left) fits i within le ∙ e1)

  by_branches : (left k i : ℕ) (same : Bool) → k + suc left ≡ vars → 2 ≤ i → i < length ns → k ≤ top ns i → are_same left (fixed false (from ns k i)) (fixed true (from ns k i)) ≡ same
      → walk (suc left) k (from ns k i) ≡ cond same (walk left (suc k) (fixed false (from ns k i))) (depends left k (from ns k i))
  by_branches left k i same fits high within le e =
      by_tests left k i false false fits within le (ne_eqb i 0 (λ z. omega (arith, z, high))) (ne_eqb i 1 (λ z. omega (arith, z, high)))
      ∙ ap (λ (x : Bool). cond x (walk left (suc k) (fixed false (from ns k i))) (depends left k (from ns k i))) e

  end_within : (i : ℕ) → i < 2 → i < length ns
  end_within i low = omega (arith, low, r.ends)

  end_le : (k left i : ℕ) → k + left ≡ vars → i < 2 → k ≤ top ns i
  end_le k left i fits low = omega (arith, fits, top_end vars ns r i low)

  -- a constant
  pub ends : (left k i : ℕ) → k + left ≡ vars → i < 2 → walk left k (from ns k i) ≡ cond (eqb i 1) one_gives zero_gives
  ends zero k i fits low = at_end k (from ns k i) ∙ ap (λ (b : Bool). cond b one_gives zero_gives) (end_value ns i (bits_from k []) low)
  ends (suc left) k zero fits low = by_tests left k 0 true false fits (end_within 0 low) (end_le k (suc left) 0 fits low) refl refl
  ends (suc left) k (suc zero) fits low = by_tests left k 1 false true fits (end_within 1 low) (end_le k (suc left) 1 fits low) refl refl
  ends (suc left) k (suc (suc i)) fits low = absurd (omega (arith, low))

  -- an input that is not read
  one_more : (left k i : ℕ) → k + suc left ≡ vars → i < length ns → k < top ns i → walk (suc left) k (from ns k i) ≡ walk left (suc k) (from ns (suc k) i)
  one_more left k i fits within lt = elim (cases_lt i 2) [
    | inl low ↦ ends (suc left) k i fits low ∙ sym (ends left (suc k) i (omega (arith, fits)) low)
    | inr high ↦
        by_branches left k i true fits high within (omega (arith, lt))
        (ap₂ (are_same left) (later vars ns r k i false within lt) (later vars ns r k i true within lt)
        ∙ same_test vars ns r (suc k) left (omega (arith, fits)) i i within within (omega (arith, lt)) (omega (arith, lt)) ∙ eq-eqb i i refl)
        ∙ ap (walk left (suc k)) (later vars ns r k i false within lt)
  ]

  -- from any input on that is not behind the first one that is read it gives the same
  pub to_whole : (k left i : ℕ) → k + left ≡ vars → i < length ns → k ≤ top ns i → walk left k (from ns k i) ≡ walk vars 0 (from ns 0 i)
  to_whole zero left i fits within le = (let e : left ≡ vars = omega (arith, fits) in ap (λ (n : ℕ). walk n 0 (from ns 0 i)) e)
  to_whole (suc k) left i fits within le = sym (one_more left k i (omega (arith, fits)) within (omega (arith, le))) ∙ to_whole k (suc left) i (omega (arith, fits)) within (omega (arith, le))

  -- a node depends on its variable
  pub at_node : (left i : ℕ) → top ns i + suc left ≡ vars → 2 ≤ i → i < length ns → walk vars 0 (from ns 0 i) ≡ depends left (top ns i) (from ns (top ns i) i)
  at_node left i fits high within =
      let p = r.proper i high within in
      let t = top_is vars ns r i in
      sym (to_whole (top ns i) (suc left) i fits within (omega arith))
      ∙ by_branches left (top ns i) i false fits high within (omega arith)
      (ap₂ (are_same left) (low_part vars ns r i high within) (high_part vars ns r i high within)
      ∙ same_test vars ns r (suc (top ns i)) left (omega (arith, fits)) (diagram_node ns i).lo (diagram_node ns i).hi
      (omega (arith, p.lo_below, within)) (omega (arith, p.hi_below, within)) (omega (arith, p.lo_later, t)) (omega (arith, p.hi_later, t))
      ∙ ne_eqb (diagram_node ns i).lo (diagram_node ns i).hi p.differ)
