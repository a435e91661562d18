-- In a reduced diagram two places with one function are one place.
use Rattle.std.proofs.Common.{◌≡◌, ℕ, zero, suc, ◌+◌, ◌<◌, ◌≤◌, ◌≢◌, Bool, true, false, cond, List, length, refl, sym, ap, ◌∙◌, inl, inr, arith}
use Rattle.std.proofs.lemmas.Bool.{cases_lt, cases_eq, false≢true}
use Rattle.node_pool.specs.declared.region.Node.{Node}
use Rattle.bdd_core.specs.Diagram.{with_bit, Valuation, IsSame, node_at, meaning, top, IsReduced}
use Rattle.bdd_core.proofs.Meaning.{meaning_zero, meaning_one, meaning_node}

pub with_bit_here : (v : Valuation) (x : ℕ) (b : Bool) → with_bit v x b x ≡ b
with_bit_here v x b = grind arith

pub with_bit_other : (v : Valuation) (x y : ℕ) (b : Bool) → y ≢ x → with_bit v x b y ≡ v y
with_bit_other v x y b other = grind arith

node_is : (m n : Node) → m.var ≡ n.var → m.lo ≡ n.lo → m.hi ≡ n.hi → m ≡ n
node_is m n var lo hi =
    let build : ℕ → ℕ → ℕ → Node = λ a b c. record { var = a; lo = b; hi = c } in
    ap (λ a. build a m.lo m.hi) var ∙ ap (λ b. build n.var b m.hi) lo ∙ ap (λ c. build n.var n.lo c) hi

module _ (vars : ℕ) (nodes : List Node) (sound : IsReduced vars nodes) where
  pub proper_node : (i : ℕ) → 2 ≤ i → i < length nodes → (v : Valuation) → meaning nodes i v ≡ cond (v (top nodes i)) (meaning nodes (node_at nodes i).hi v) (meaning nodes (node_at nodes i).lo v)
  unfolding top
  proper_node i proper within v = let p = sound.proper i proper within in meaning_node nodes v i proper p.lo_below p.hi_below

  pub top_is : (i : ℕ) → top nodes i ≡ (node_at nodes i).var
  unfolding top
  top_is i = refl

  independent_below : (n i : ℕ) → i < n → i < length nodes → (v w : Valuation) → ((x : ℕ) → top nodes i ≤ x → v x ≡ w x) → meaning nodes i v ≡ meaning nodes i w
  independent_below zero i below within v w same = absurd (omega arith)
  independent_below (suc n) i below within v w same = elim (cases_lt i 2) [
    | inl low ↦ elim (cases_eq i 0) [
      | inl here ↦ rw here (meaning_zero nodes v ∙ sym (meaning_zero nodes w))
      | inr other ↦ let one : i ≡ 1 = omega arith in rw one (meaning_one nodes v ∙ sym (meaning_one nodes w))
    ]
    | inr high ↦
        let p = sound.proper i high within in
        let hi_same = independent_below n (node_at nodes i).hi (omega (arith, p.hi_below)) (omega (arith, p.hi_below)) v w (λ x later. same x (omega (arith, p.hi_later, top_is i))) in
        let lo_same = independent_below n (node_at nodes i).lo (omega (arith, p.lo_below)) (omega (arith, p.lo_below)) v w (λ x later. same x (omega (arith, p.lo_later, top_is i))) in
        proper_node i high within v ∙ rw (same (top nodes i) (omega arith), hi_same, lo_same) (sym (proper_node i high within w))
  ]

  -- a place does not depend on what comes before its variable
  pub independent : (i : ℕ) → i < length nodes → (v w : Valuation) → ((x : ℕ) → top nodes i ≤ x → v x ≡ w x) → meaning nodes i v ≡ meaning nodes i w
  independent i within v w same = independent_below (suc i) i (omega arith) within v w same

  pub independent_bit : (i x : ℕ) (b : Bool) → i < length nodes → x < top nodes i → (v : Valuation) → meaning nodes i (with_bit v x b) ≡ meaning nodes i v
  independent_bit i x b within before v = independent i within (with_bit v x b) v (λ y later. with_bit_other v x y b (omega arith))

  -- the branches at a bit, by the function alone
  pub hi_by_bit : (i : ℕ) → 2 ≤ i → i < length nodes → (v : Valuation) → meaning nodes (node_at nodes i).hi v ≡ meaning nodes i (with_bit v (top nodes i) true)
  hi_by_bit i high within v =
      let p = sound.proper i high within in
      sym (proper_node i high within (with_bit v (top nodes i) true) ∙ rw (with_bit_here v (top nodes i) true) (independent_bit (node_at nodes i).hi (top nodes i) true (omega (arith, p.hi_below)) (omega (arith, p.hi_later, top_is i)) v))

  pub lo_by_bit : (i : ℕ) → 2 ≤ i → i < length nodes → (v : Valuation) → meaning nodes (node_at nodes i).lo v ≡ meaning nodes i (with_bit v (top nodes i) false)
  lo_by_bit i high within v =
      let p = sound.proper i high within in
      sym (proper_node i high within (with_bit v (top nodes i) false) ∙ rw (with_bit_here v (top nodes i) false) (independent_bit (node_at nodes i).lo (top nodes i) false (omega (arith, p.lo_below)) (omega (arith, p.lo_later, top_is i)) v))

  pub top_end : (i : ℕ) → i < 2 → top nodes i ≡ vars
  top_end i low = elim (cases_eq i 0) [
    | inl here ↦ rw here sound.zero_end
    | inr other ↦ let one : i ≡ 1 = omega arith in rw one sound.one_end
  ]

  pub top_le : (i : ℕ) → i < length nodes → top nodes i ≤ vars
  top_le i within = elim (cases_lt i 2) [
    | inl low ↦ omega (arith, top_end i low)
    | inr high ↦ omega (arith, top_is i, (sound.proper i high within).var_below)
  ]

  -- the two ends differ at any valuation
  ends_differ : (i j : ℕ) → i < 2 → j < 2 → (v : Valuation) → meaning nodes i v ≡ meaning nodes j v → i ≡ j
  ends_differ i j low low' v same =
      let zero_value : meaning nodes 0 v ≡ false = meaning_zero nodes v in
      let one_value : meaning nodes 1 v ≡ true = meaning_one nodes v in
      elim (cases_eq i 0) [
        | inl zero_i ↦ elim (cases_eq j 0) [
          | inl zero_j ↦ zero_i ∙ sym zero_j
          | inr other ↦ let one : j ≡ 1 = omega arith in absurd (false≢true (cc))
        ]
        | inr other ↦ let one_i : i ≡ 1 = omega arith in elim (cases_eq j 0) [
          | inl zero_j ↦ absurd (false≢true (cc))
          | inr other' ↦ omega arith
        ]
      ]

  -- a node that tests a variable before those of j has another function, where its branches have other functions or are one
  earlier : (n i j : ℕ) → ((k l : ℕ) → k + l < n → k < length nodes → l < length nodes → IsSame (meaning nodes k) (meaning nodes l) → k ≡ l) →
      i + j < suc n → i < length nodes → j < length nodes → IsSame (meaning nodes i) (meaning nodes j) → top nodes i < top nodes j → ⊥
  earlier n i j known below within within' same before = elim (cases_lt i 2) [
    | inl low ↦ omega (arith, top_end i low, top_le j within')
    | inr high ↦
        let p = sound.proper i high within in
        let hi_is = known (node_at nodes i).hi j (omega (arith, p.hi_below)) (omega (arith, p.hi_below)) within'
        (λ v. hi_by_bit i high within v ∙ same (with_bit v (top nodes i) true) ∙ independent_bit j (top nodes i) true within' before v) in
        let lo_is = known (node_at nodes i).lo j (omega (arith, p.lo_below)) (omega (arith, p.lo_below)) within'
        (λ v. lo_by_bit i high within v ∙ same (with_bit v (top nodes i) false) ∙ independent_bit j (top nodes i) false within' before v) in
        p.differ (lo_is ∙ sym hi_is)
  ]

  same_below : (n i j : ℕ) → i + j < n → i < length nodes → j < length nodes → IsSame (meaning nodes i) (meaning nodes j) → i ≡ j
  same_below zero i j below within within' same = absurd (omega arith)
  same_below (suc n) i j below within within' same = elim (cases_lt (top nodes i) (top nodes j)) [
    | inl before ↦ absurd (earlier n i j (same_below n) below within within' same before)
    | inr not_before ↦ elim (cases_lt (top nodes j) (top nodes i)) [
      | inl after ↦ absurd (earlier n j i (same_below n) (omega arith) within' within (λ v. sym (same v)) after)
      | inr not_after ↦ elim (cases_lt i 2) [
        | inl low ↦ elim (cases_lt j 2) [
          | inl low' ↦ ends_differ i j low low' (λ _. false) (same (λ _. false))
          | inr high' ↦ absurd (omega (arith, top_end i low, top_is j, (sound.proper j high' within').var_below))
        ]
        | inr high ↦ elim (cases_lt j 2) [
          | inl low' ↦ absurd (omega (arith, top_end j low', top_is i, (sound.proper i high within).var_below))
          | inr high' ↦
              let p = sound.proper i high within in
              let q = sound.proper j high' within' in
              let tops : top nodes i ≡ top nodes j = omega arith in
              let hi_is = same_below n (node_at nodes i).hi (node_at nodes j).hi (omega (arith, p.hi_below, q.hi_below)) (omega (arith, p.hi_below)) (omega (arith, q.hi_below))
              (λ v. hi_by_bit i high within v ∙ same (with_bit v (top nodes i) true) ∙ rw tops (sym (hi_by_bit j high' within' v))) in
              let lo_is = same_below n (node_at nodes i).lo (node_at nodes j).lo (omega (arith, p.lo_below, q.lo_below)) (omega (arith, p.lo_below)) (omega (arith, q.lo_below))
              (λ v. lo_by_bit i high within v ∙ same (with_bit v (top nodes i) false) ∙ rw tops (sym (lo_by_bit j high' within' v))) in
              let var_is : (node_at nodes i).var ≡ (node_at nodes j).var = sym (top_is i) ∙ tops ∙ top_is j in
              sound.once i j within within' (node_is (node_at nodes i) (node_at nodes j) var_is lo_is hi_is)
        ]
      ]
    ]
  ]

  -- two places with one function are one place
  pub canonical : (i j : ℕ) → i < length nodes → j < length nodes → IsSame (meaning nodes i) (meaning nodes j) → i ≡ j
  canonical i j within within' same = same_below (suc (i + j)) i j (omega arith) within within' same

  pub ends_same : (i : ℕ) → i < 2 → (v w : Valuation) → meaning nodes i v ≡ meaning nodes i w
  ends_same i low v w = elim (cases_eq i 0) [
    | inl here ↦ rw here (meaning_zero nodes v ∙ sym (meaning_zero nodes w))
    | inr other ↦ let one : i ≡ 1 = omega arith in rw one (meaning_one nodes v ∙ sym (meaning_one nodes w))
  ]
