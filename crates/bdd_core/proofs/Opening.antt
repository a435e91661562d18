-- A store as it opens: the two ends and an empty memo.
use Rattle.std.proofs.Common.{◌≡◌, ℕ, List, [], ◌∷◌, refl, sym, ap, ◌∙◌, inl, inr, arith}
use Rattle.std.proofs.lemmas.Bool.{cases_eq}
use Rattle.node_pool.specs.declared.region.Node.{Node}
use Rattle.bdd_core.specs.Diagram.{node_at, top, IsReduced}

abbrev pub end_node : ℕ → ℕ → Node
end_node vars i = record { var = vars; lo = i; hi = i }

abbrev pub two_ends : ℕ → List Node
two_ends vars = end_node vars 0 ∷ end_node vars 1 ∷ []

pub two_ends_reduced : (vars : ℕ) → IsReduced vars (two_ends vars)
unfolding top
two_ends_reduced vars = record {
  ends = omega arith;
  zero_end = refl;
  one_end = refl;
  proper = λ i high below. absurd (omega (arith, high, below));
  once = λ i j in_i in_j same. elim (cases_eq i 0) [
    | inl i0 ↦ elim (cases_eq j 0) [
      | inl j0 ↦ i0 ∙ sym j0
      | inr j' ↦ let j1 : j ≡ 1 = omega (arith, in_j, j') in absurd (omega (arith, ap (λ n. n.lo) (sym (ap (node_at (two_ends vars)) i0) ∙ same ∙ ap (node_at (two_ends vars)) j1)))
    ]
    | inr i' ↦ let i1 : i ≡ 1 = omega (arith, in_i, i') in elim (cases_eq j 0) [
      | inl j0 ↦ absurd (omega (arith, ap (λ n. n.lo) (sym (ap (node_at (two_ends vars)) i1) ∙ same ∙ ap (node_at (two_ends vars)) j0)))
      | inr j' ↦ omega (arith, in_j, j', i1)
    ]
  ];
}
