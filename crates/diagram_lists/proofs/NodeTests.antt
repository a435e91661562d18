-- Whether a node is in a list, by the number of its place.
use Rattle.std.proofs.Common.{◌≡◌, ℕ, suc, ◌+◌, ◌-◌, ◌<◌, ◌≤◌, ◌≢◌, ◌&&◌, Bool, true, false, List, length, map, eqb, refl, sym, ap, ◌∙◌, inl, inr, arith}
use Rattle.std.specs.List.{list_any}
use Rattle.std.proofs.lemmas.Bool.{cases_eq, eq-eqb, eqb-true, ne_eqb}
use Rattle.bdd_core.specs.Diagram.{IsReduced, top}
use Rattle.bdd_core.specs.Store.{Diagrams}
use Rattle.bdd_core.specs.declared.handle.H.{H}
use Rattle.diagram_lists.proofs.Places.{from, same_test}
use Rattle.diagram_lists.specs.Listed.{node_of, number_at}
use Rattle.diagram_lists.specs.Numbered.{IsNumbered}
use Rattle.diagram_lists.specs.declared.list.NodeList.{NodeList}
use Rattle.vrt_model.proofs.Lists.{at_map, map_among}
use Rattle.vrt_model.proofs.Members.{among_any}
use Rattle.written_models.proofs.NodeBits.{found}
use Rattle.written_models.specs.Functions.{Node, are_same, is_node, place_where}

all_three : (a b c x : Bool) → a ≡ true → b ≡ true → c ≡ x → ((a && b) && c) ≡ x
all_three a b c x e f g = rw (e, f) g

not_first : (a b c : Bool) → a ≡ false → ((a && b) && c) ≡ false
not_first a b c e = rw e refl

module _ (d : Diagrams) (r : IsReduced d.vars d.nodes) (i left : ℕ) (within : i < length d.nodes) (fits : top d.nodes i + suc left ≡ d.vars) where
  -- the test of the node of a place
  abbrev pub is_that : Node → Bool
  is_that = is_node (top d.nodes i) (suc left) (from d.nodes (top d.nodes i) i)

  -- the node of a handle passes exactly where it is of that place
  that_test : (h : H) → h.0 < length d.nodes → is_that (node_of d h) ≡ eqb h.0 i
  that_test h live = elim (cases_eq (top d.nodes h.0) (top d.nodes i)) [
    | inl here ↦
        let t : ℕ = top d.nodes i in
        let rest : d.vars - t ≡ suc left = omega (arith, fits) in
        ap (λ (u : ℕ). (eqb u t && eqb (d.vars - u) (suc left)) && are_same (suc left) (from d.nodes u h.0) (from d.nodes t i)) here
        ∙ all_three (eqb t t) (eqb (d.vars - t) (suc left)) (are_same (suc left) (from d.nodes t h.0) (from d.nodes t i)) (eqb h.0 i)
        (eq-eqb t t refl) (eq-eqb (d.vars - t) (suc left) rest)
        (same_test d.vars d.nodes r t (suc left) fits h.0 i live within (omega (arith, here)) (omega arith))
    | inr other ↦
        not_first (eqb (top d.nodes h.0) (top d.nodes i)) (eqb (d.vars - top d.nodes h.0) (suc left))
        (are_same (suc left) (from d.nodes (top d.nodes h.0) h.0) (from d.nodes (top d.nodes i) i)) (ne_eqb (top d.nodes h.0) (top d.nodes i) other)
        ∙ sym (ne_eqb h.0 i (λ e. other (ap (top d.nodes) e)))
  ]

  module _ (list : NodeList) (s : IsNumbered (length d.nodes) list) where
    abbrev nodes : List Node
    nodes = map (node_of d) list.nodes.items

    -- a node that is there has its number
    pub there_number : list_any is_that nodes ≡ true → number_at list i ≡ 2 + place_where is_that nodes
    there_number e =
        let n = found is_that nodes e in
        let h = at_map (node_of d) list.nodes.items (place_where is_that nodes) n.0 n.1 in
        let p = s.listed (place_where is_that nodes) h.0 h.1 in
        let test : is_that (node_of d h.0) ≡ true = ap is_that h.2 ∙ n.2 in
        let same : h.0.0 ≡ i = eqb-true h.0.0 i (sym (that_test h.0 p.1) ∙ test) in
        ap (number_at list) (sym same) ∙ p.2

    -- it is there exactly where its place has a number
    pub there_test : 2 ≤ i → number_at list i ≢ 0 → list_any is_that nodes ≡ true
    there_test high some =
        let p = s.others i high some in
        let q = s.listed p.0 p.1 p.2 in
        among_any is_that nodes (node_of d p.1) (map_among (node_of d) list.nodes.items p.1 (p.0, p.2)) (that_test p.1 q.1 ∙ eq-eqb p.1.0 i p.3)

    pub free_test : number_at list i ≡ 0 → list_any is_that nodes ≡ false
    free_test free = by_value (list_any is_that nodes) refl
      where
        by_value : (b : Bool) → list_any is_that nodes ≡ b → b ≡ false
        by_value false e = refl
        by_value true e = (let n = there_number e in absurd (omega (arith, n, free)))
