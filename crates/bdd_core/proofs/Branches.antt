-- The branches of a place at a variable that is not after its own.
use Rattle.std.proofs.Common.{◌≡◌, ℕ, ◌<◌, ◌≤◌, ◌≢◌, Bool, true, false, List, length, sym, ap, ◌∙◌, inl, inr, arith}
use Rattle.std.proofs.lemmas.Bool.{cases_lt}
use Rattle.node_pool.specs.declared.region.Node.{Node}
use Rattle.bdd_core.specs.Diagram.{with_bit, IsSame, node_at, meaning, top, IsReduced}
use Rattle.bdd_core.proofs.Canonical.{top_end, hi_by_bit, lo_by_bit, independent_bit}

module _ (vars : ℕ) (nodes : List Node) (r : IsReduced vars nodes) (i : ℕ) (within : i < length nodes) where
  pub is_proper : top nodes i < vars → 2 ≤ i
  is_proper before = elim (cases_lt i 2) [ inl low ↦ omega (arith, top_end vars nodes r i low) | inr high ↦ high ]

  -- the node n stands at i and tests x
  pub tests : (n : Node) → n ≡ node_at nodes i → top nodes i ≡ n.var
  unfolding top
  tests n is = ap (λ m. m.var) (sym is)

  pub branch_lo : (n : Node) (x : ℕ) → n ≡ node_at nodes i → n.var ≡ x → x < vars → IsSame (meaning nodes n.lo) (λ v. meaning nodes i (with_bit v x false))
  branch_lo n x is var before v =
      let at : top nodes i ≡ x = tests n is ∙ var in
      rw is (lo_by_bit vars nodes r i (is_proper (omega arith)) within v ∙ ap (λ y. meaning nodes i (with_bit v y false)) at)

  pub branch_hi : (n : Node) (x : ℕ) → n ≡ node_at nodes i → n.var ≡ x → x < vars → IsSame (meaning nodes n.hi) (λ v. meaning nodes i (with_bit v x true))
  branch_hi n x is var before v =
      let at : top nodes i ≡ x = tests n is ∙ var in
      rw is (hi_by_bit vars nodes r i (is_proper (omega arith)) within v ∙ ap (λ y. meaning nodes i (with_bit v y true)) at)

  pub branch_below : (n : Node) (x : ℕ) → n ≡ node_at nodes i → n.var ≡ x → x < vars → (n.lo < i) × (n.hi < i)
  branch_below n x is var before =
      let at : top nodes i ≡ x = tests n is ∙ var in
      let p = r.proper i (is_proper (omega arith)) within in
      rw is (p.lo_below, p.hi_below)

  -- a place that tests a later variable has itself as both branches
  pub branch_same : (n : Node) (x : ℕ) (b : Bool) → n ≡ node_at nodes i → n.var ≢ x → x ≤ top nodes i → IsSame (meaning nodes i) (λ v. meaning nodes i (with_bit v x b))
  branch_same n x b is other le v = let at = tests n is in sym (independent_bit vars nodes r i x b within (omega arith) v)
