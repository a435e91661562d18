-- The numbers of a list of all nodes below some handles.
use Rattle.std.proofs.Common.{◌≡◌, ℕ, zero, suc, ◌+◌, ◌-◌, ◌<◌, ◌≤◌, Bool, true, false, cond, List, [], length, map, take, drop, eqb, refl, sym, ap, ◌∙◌, subst, inl, inr, arith}
use Rattle.std.specs.List.{list_any}
use Rattle.std.proofs.lemmas.Bool.{cases_lt}
use Rattle.bdd_core.proofs.Canonical.{top_is}
use Rattle.bdd_core.specs.Diagram.{IsReduced, node_at as diagram_node, top}
use Rattle.bdd_core.specs.Store.{Diagrams, IsLive}
use Rattle.bdd_core.specs.declared.handle.H.{H}
use Rattle.diagram_lists.proofs.NodeTests.{there_number}
use Rattle.diagram_lists.proofs.Places.{from, high_part, low_part}
use Rattle.diagram_lists.proofs.Visits.{at_node, ends, to_whole}
use Rattle.diagram_lists.specs.Listed.{IsNodeList, function_from, functions_of, node_of, nodes_below, number_at}
use Rattle.diagram_lists.specs.Numbered.{IsNumbered}
use Rattle.diagram_lists.specs.declared.list.NodeList.{NodeList}
use Rattle.vrt_model.proofs.Lists.{map_among, map_at}
use Rattle.vrt_model.specs.Lists.{Among, At}
use Rattle.written_models.proofs.NodeBits.{front_and_rest}
use Rattle.written_models.proofs.NodeOrder.{nodes_are_ordered, there_more}
use Rattle.written_models.specs.Functions.{Function, Node, branch_of, fixed, is_node, number_of, place_where}
use Rattle.written_models.specs.NodeLaws.{is_there}

either : (b : Bool) → true ≡ cond b true true
either true = refl
either false = refl

module _ (d : Diagrams) (r : IsReduced d.vars d.nodes) (list : NodeList) (s : IsNumbered (length d.nodes) list) where
  abbrev listed : List Node
  listed = map (node_of d) list.nodes.items

  -- the number of a function, and whether it is there
  abbrev number : ℕ → ℕ → Function → ℕ
  number left input f = number_of left input f listed

  abbrev number_here : ℕ → ℕ → Function → ℕ
  number_here left input f = 2 + place_where (is_node input (suc left) f) listed

  abbrev there : ℕ → ℕ → Function → Bool
  there left input f = is_there left input f listed

  abbrev there_here : ℕ → ℕ → Function → Bool
  there_here left input f = list_any (is_node input (suc left) f) listed

  end_number : (i : ℕ) → i < 2 → number_at list i ≡ cond (eqb i 1) 1 0
  end_number zero low = s.nought
  end_number (suc zero) low = s.one
  end_number (suc (suc i)) low = absurd (omega (arith, low))

  -- the number of a place is that of its function, from any input on that is not behind the first one that is read
  is_number : (k left i : ℕ) → k + left ≡ d.vars → i < length d.nodes → k ≤ top d.nodes i → there left k (from d.nodes k i) ≡ true → number_at list i ≡ number left k (from d.nodes k i)
  is_number k left i fits within le e = elim (cases_lt i 2) [
    | inl low ↦ end_number i low ∙ sym (ends number 0 1 number_here (λ input f. refl) (λ left input f. refl) d.vars d.nodes r left k i fits low)
    | inr high ↦
        let p = r.proper i high within in
        let t = top_is d.vars d.nodes r i in
        let rest : ℕ = d.vars - suc (top d.nodes i) in
        let rest_fits : top d.nodes i + suc rest ≡ d.vars = omega (arith, p.var_below, t) in
        let here : there_here rest (top d.nodes i) (from d.nodes (top d.nodes i) i) ≡ true =
        sym (at_node there true true there_here (λ input f. either (f [])) (λ left input f. refl) d.vars d.nodes r rest i rest_fits high within)
        ∙ sym (to_whole there true true there_here (λ input f. either (f [])) (λ left input f. refl) d.vars d.nodes r k left i fits within le) ∙ e in
        there_number d r i rest within rest_fits list s here
        ∙ sym (at_node number 0 1 number_here (λ input f. refl) (λ left input f. refl) d.vars d.nodes r rest i rest_fits high within)
        ∙ sym (to_whole number 0 1 number_here (λ input f. refl) (λ left input f. refl) d.vars d.nodes r k left i fits within le)
  ]

  module _ (handles : List H) (live : (h : H) → Among handles h → IsLive d h) (all : map (node_of d) list.nodes.items ≡ nodes_below d handles) where
    abbrev below : List Node
    below = nodes_below d handles

    is_number_of : (k left i : ℕ) → k + left ≡ d.vars → i < length d.nodes → k ≤ top d.nodes i → is_there left k (from d.nodes k i) below ≡ true
        → number_at list i ≡ number_of left k (from d.nodes k i) below
    is_number_of k left i fits within le e =
        is_number k left i fits within le (ap (is_there left k (from d.nodes k i)) all ∙ e) ∙ ap (number_of left k (from d.nodes k i)) all

    inner : (h : H) → Among list.nodes.items h → (2 ≤ h.0) × IsLive d h
    inner h m = (let p = s.listed m.0 h m.1 in (p.0, p.1))

    -- the branches of a node in the list are there
    branch_there : (h : H) → Among list.nodes.items h → (b : Bool) → is_there (d.vars - top d.nodes h.0 - 1) (suc (top d.nodes h.0)) (fixed b (from d.nodes (top d.nodes h.0) h.0)) below ≡ true
    branch_there h m b =
        let order = nodes_are_ordered d.vars (functions_of d handles) in
        let at : At below m.0 (node_of d h) = subst (λ (ns : List Node). At ns m.0 (node_of d h)) all (map_at (node_of d) list.nodes.items m.0 h m.1) in
        let placed = order.0 m.0 (node_of d h) at in
        subst (λ (ns : List Node). is_there (d.vars - top d.nodes h.0 - 1) (suc (top d.nodes h.0)) (fixed b (from d.nodes (top d.nodes h.0) h.0)) ns ≡ true) (sym (front_and_rest m.0 below))
        (there_more (d.vars - top d.nodes h.0 - 1) (suc (top d.nodes h.0)) (fixed b (from d.nodes (top d.nodes h.0) h.0)) (take m.0 below) (drop m.0 below) (placed.branches b))

    branch_number : (h : H) (m : Among list.nodes.items h) (b : Bool) (j : ℕ) → j < h.0 → suc (top d.nodes h.0) ≤ top d.nodes j
        → fixed b (from d.nodes (top d.nodes h.0) h.0) ≡ from d.nodes (suc (top d.nodes h.0)) j → number_at list j ≡ branch_of below (node_of d h) b
    branch_number h m b j lower later part =
        let q = inner h m in
        let p = r.proper h.0 q.0 q.1 in
        let t = top_is d.vars d.nodes r h.0 in
        let left : ℕ = d.vars - top d.nodes h.0 - 1 in
        let k : ℕ = suc (top d.nodes h.0) in
        is_number_of k left j (omega (arith, p.var_below, t)) (omega (arith, lower, q.1)) later
        (ap (λ (g : Function). is_there left k g below) (sym part) ∙ branch_there h m b)
        ∙ ap (λ (g : Function). number_of left k g below) (sym part)

    pub is_node_list : IsNodeList d handles list
    is_node_list = record {
      nodes = all;
      inner = inner;
      places = s.places;
      roots = λ h m. is_number_of 0 d.vars h.0 (omega arith) (live h m) (omega arith)
          ((nodes_are_ordered d.vars (functions_of d handles)).1 (function_from d 0 h) (map_among (function_from d 0) handles h m));
      low = λ h m.
          let q = inner h m in
          let p = r.proper h.0 q.0 q.1 in
          let t = top_is d.vars d.nodes r h.0 in
          branch_number h m false (diagram_node d.nodes h.0).lo p.lo_below (omega (arith, p.lo_later, t)) (low_part d.vars d.nodes r h.0 q.0 q.1);
      high = λ h m.
          let q = inner h m in
          let p = r.proper h.0 q.0 q.1 in
          let t = top_is d.vars d.nodes r h.0 in
          branch_number h m true (diagram_node d.nodes h.0).hi p.hi_below (omega (arith, p.hi_later, t)) (high_part d.vars d.nodes r h.0 q.0 q.1);
    }
