-- Where arcs have no cycle, there is no set of numbers of which each is behind another.
use Rattle.std.proofs.Common.{◌≡◌, ℕ, zero, suc, ◌<◌, true, false, List, [], ◌∷◌, ◌++◌, length, eqb, arith, subst, sym, refl, inl, inr}
use Rattle.std.specs.List.{AllByRecursion, IsDistinct, list_any}
use Rattle.std.proofs.lemmas.Bool.{eqb-true, false≢true, ne_eqb, or_cases}
use Rattle.std.proofs.lemmas.Map.Keys.{IsDistinct-cons}
use Rattle.std.proofs.lemmas.Map.Steps.{length-le_from_distinct_below}
use Rattle.graphs.proofs.Walks.{walk_further}
use Rattle.vrt_model.specs.Known.{IsCycle, IsWalk}

-- a walk of at least one arc
abbrev Leads : (ℕ → ℕ → Type 0) → ℕ → ℕ → Type 0
Leads Arc n m = (nodes : List ℕ) × (last : ℕ) × IsWalk Arc n nodes last × Arc last m

leads_further : (Arc : ℕ → ℕ → Type 0) (n l m : ℕ) → Leads Arc n l → Arc l m → Leads Arc n m
leads_further Arc n l m leads arc = (leads.0 ++ l ∷ [], l, walk_further Arc leads.0 n leads.1 l leads.2 leads.3, arc)

module _ (Arc : ℕ → ℕ → Type 0) (count : ℕ) (acyclic : (nodes : List ℕ) → ¬ IsCycle Arc nodes) where
  abbrev Before : ℕ → ℕ → Type 0
  Before m n = Leads Arc n m × (n < count)

  -- numbers that lead to one, as many as a number says
  record Trail (m size : ℕ) : Type 0 where
    nodes : List ℕ
    len : length nodes ≡ size
    apart : IsDistinct eqb nodes
    lead : AllByRecursion (Before m) nodes

  lead_further : (l m : ℕ) (nodes : List ℕ) → Arc l m → AllByRecursion (Before l) nodes → AllByRecursion (Before m) nodes
  lead_further l m [] arc lead = tt
  lead_further l m (n ∷ nodes) arc lead = ((leads_further Arc n l m lead.0.0 arc, lead.0.1), lead_further l m nodes arc lead.1)

  lead_apart : (m : ℕ) (nodes : List ℕ) → AllByRecursion (Before m) nodes → AllByRecursion (λ (y : ℕ). eqb m y ≡ false) nodes
  lead_apart m [] lead = tt
  lead_apart m (n ∷ nodes) lead =
      (ne_eqb m n (λ e. let around = subst (λ (x : ℕ). Leads Arc x m) (sym e) lead.0.0 in acyclic (m ∷ around.0) (around.1, around.2, around.3)), lead_apart m nodes lead.1)

  lead_below : (m : ℕ) (nodes : List ℕ) → AllByRecursion (Before m) nodes → (q : ℕ) → list_any (eqb q) nodes ≡ true → q < count
  lead_below m [] lead q e = absurd (false≢true e)
  lead_below m (n ∷ nodes) lead q e =
      elim (or_cases (eqb q n) (list_any (eqb q) nodes) e) [
        | inl t ↦ subst (λ (x : ℕ). x < count) (sym (eqb-true q n t)) lead.0.1
        | inr t ↦ lead_below m nodes lead.1 q t
      ]

  -- numbers below the count, of which each is behind another
  module _ (P : ℕ → Type 0) (below : (m : ℕ) → P m → m < count) (back : (m : ℕ) → P m → (n : ℕ) × P n × Arc n m) where
    trail : (k m : ℕ) → P m → Trail m k
    unfolding IsDistinct
    trail zero m p = record { nodes = []; len = refl; apart = tt; lead = tt }
    trail (suc k) m p =
        let from = back m p in
        let before = trail k from.0 from.1 in
        let len = before.len in
        record {
          nodes = from.0 ∷ before.nodes;
          len = omega (arith, len);
          apart = IsDistinct-cons eqb from.0 before.nodes (lead_apart from.0 before.nodes before.lead) before.apart;
          lead = ((([], from.0, refl, from.2), below from.0 from.1), lead_further from.0 m before.nodes from.2 before.lead);
        }

    -- are none
    pub none_behind : (m : ℕ) → P m → ⊥
    none_behind m p =
        let before = trail count m p in
        let len = before.len in
        let inside = below m p in
        let nodes : List ℕ = m ∷ before.nodes in
        let apart : IsDistinct eqb nodes = IsDistinct-cons eqb m before.nodes (lead_apart m before.nodes before.lead) before.apart in
        let under : (q : ℕ) → list_any (eqb q) nodes ≡ true → q < count =
        λ q e. elim (or_cases (eqb q m) (list_any (eqb q) before.nodes) e) [
          | inl t ↦ subst (λ (x : ℕ). x < count) (sym (eqb-true q m t)) inside
          | inr t ↦ lead_below m before.nodes before.lead q t
        ] in
        let short = length-le_from_distinct_below nodes count apart under in
        omega (arith, len, short)
