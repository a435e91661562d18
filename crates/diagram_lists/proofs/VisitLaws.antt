-- What is listed below one handle, and below several.
use Rattle.std.proofs.Common.{◌≡◌, ℕ, suc, ◌+◌, ◌-◌, ◌<◌, ◌≤◌, ◌≢◌, Bool, true, false, cond, List, [], ◌∷◌, ◌++◌, length, get_or, map, refl, sym, ap, ap₂, ◌∙◌, arith}
use Rattle.std.specs.List.{list_any}
use Rattle.std.proofs.lemmas.List.{get_or-set_other, map-append}
use Rattle.bdd_core.proofs.Canonical.{top_is}
use Rattle.bdd_core.specs.Diagram.{IsReduced, node_at as diagram_node, top}
use Rattle.bdd_core.specs.Store.{Diagrams}
use Rattle.bdd_core.specs.declared.handle.H.{H}
use Rattle.diagram_lists.proofs.NodeTests.{free_test, there_test}
use Rattle.diagram_lists.proofs.Numbering.{numbered_more}
use Rattle.diagram_lists.proofs.Places.{from, high_part, low_part}
use Rattle.diagram_lists.proofs.Visits.{at_node, ends, to_whole}
use Rattle.diagram_lists.specs.Listed.{node_of, number_at}
use Rattle.diagram_lists.specs.Numbered.{HasAdded, HasListed, IsNumbered}
use Rattle.diagram_lists.specs.declared.list.NodeList.{NodeList}
use Rattle.written_models.specs.Functions.{Function, Node, fixed, is_node, node_at, with_nodes}

same_both : {A : Type 0} (b : Bool) (x : A) → cond b x x ≡ x
same_both true x = refl
same_both false x = refl

-- behind some nodes, those of a function
abbrev behind : List Node → ℕ → ℕ → Function → List Node
behind ns left input f = with_nodes left input f ns

-- and where it depends on its first input
abbrev behind_node : List Node → ℕ → ℕ → Function → List Node
behind_node ns left input f =
    cond (list_any (is_node input (suc left) f) ns) ns
    (with_nodes left (suc input) (fixed true f) (with_nodes left (suc input) (fixed false f) ns) ++ node_at input (suc left) f ∷ [])

module _ (d : Diagrams) (r : IsReduced d.vars d.nodes) where
  -- the nodes below a place, behind some
  abbrev below : ℕ → List Node → List Node
  below i ns = with_nodes d.vars 0 (from d.nodes 0 i) ns

  none_below : (i : ℕ) (ns : List Node) → i < 2 → below i ns ≡ ns
  none_below i ns low =
      ends (behind ns) ns ns (behind_node ns) (λ input f. sym (same_both (f []) ns)) (λ left input f. refl) d.vars d.nodes r d.vars 0 i (omega arith) low
      ∙ same_both _ ns

  from_any : (k left i : ℕ) (ns : List Node) → k + left ≡ d.vars → i < length d.nodes → k ≤ top d.nodes i → with_nodes left k (from d.nodes k i) ns ≡ below i ns
  from_any k left i ns fits within le =
      to_whole (behind ns) ns ns (behind_node ns) (λ input f. sym (same_both (f []) ns)) (λ left input f. refl) d.vars d.nodes r k left i fits within le

  node_below : (left i : ℕ) (ns : List Node) → top d.nodes i + suc left ≡ d.vars → 2 ≤ i → i < length d.nodes → below i ns ≡ behind_node ns left (top d.nodes i) (from d.nodes (top d.nodes i) i)
  node_below left i ns fits high within =
      at_node (behind ns) ns ns (behind_node ns) (λ input f. sym (same_both (f []) ns)) (λ left input f. refl) d.vars d.nodes r left i fits high within

  module _ (f : H) (old : NodeList) (s : IsNumbered (length d.nodes) old) where
    -- a constant
    pub listed_end : f.0 < 2 → HasListed d f old old
    listed_end low = record { numbered = s; nodes = sym (none_below f.0 (map (node_of d) old.nodes.items) low); above = λ k up. refl }

    module _ (high : 2 ≤ f.0) (within : f.0 < length d.nodes) where
      abbrev left : ℕ
      left = d.vars - suc (top d.nodes f.0)

      fits : top d.nodes f.0 + suc left ≡ d.vars
      fits = (let p = r.proper f.0 high within in let t = top_is d.vars d.nodes r f.0 in omega (arith, p.var_below, t))

      -- a node that is there
      pub listed_there : number_at old f.0 ≢ 0 → HasListed d f old old
      listed_there some =
          let ns : List Node = map (node_of d) old.nodes.items in
          record {
            numbered = s;
            nodes = sym (node_below left f.0 ns fits high within
                ∙ ap (λ (b : Bool). cond b ns (with_nodes left (suc (top d.nodes f.0)) (fixed true (from d.nodes (top d.nodes f.0) f.0))
                (with_nodes left (suc (top d.nodes f.0)) (fixed false (from d.nodes (top d.nodes f.0) f.0)) ns) ++ node_at (top d.nodes f.0) (suc left) (from d.nodes (top d.nodes f.0) f.0) ∷ []))
                (there_test d r f.0 left within fits old s high some));
            above = λ k up. refl;
          }

      -- a node that was not there, behind its branches
      module _ (free : number_at old f.0 ≡ 0) (lo hi : H) (lo_is : lo.0 ≡ (diagram_node d.nodes f.0).lo) (hi_is : hi.0 ≡ (diagram_node d.nodes f.0).hi)
          (mid last : NodeList) (one : HasListed d lo old mid) (two : HasListed d hi mid last) where
        pub still_free : number_at last f.0 ≡ 0
        still_free = (let p = r.proper f.0 high within in two.above f.0 (omega (arith, hi_is, p.hi_below)) ∙ one.above f.0 (omega (arith, lo_is, p.lo_below)) ∙ free)

        branches_listed : (ns : List Node)
            → with_nodes left (suc (top d.nodes f.0)) (fixed true (from d.nodes (top d.nodes f.0) f.0)) (with_nodes left (suc (top d.nodes f.0)) (fixed false (from d.nodes (top d.nodes f.0) f.0)) ns)
            ≡ below hi.0 (below lo.0 ns)
        branches_listed ns =
            let p = r.proper f.0 high within in
            let t = top_is d.vars d.nodes r f.0 in
            let k : ℕ = suc (top d.nodes f.0) in
            let low_same : with_nodes left k (fixed false (from d.nodes (top d.nodes f.0) f.0)) ns ≡ below lo.0 ns =
            ap (λ (g : Function). with_nodes left k g ns) (low_part d.vars d.nodes r f.0 high within)
            ∙ from_any k left (diagram_node d.nodes f.0).lo ns (omega (arith, fits)) (omega (arith, p.lo_below, within)) (omega (arith, p.lo_later, t))
            ∙ ap (λ (j : ℕ). below j ns) (sym lo_is) in
            ap₂ (λ (g : Function) (ms : List Node). with_nodes left k g ms) (high_part d.vars d.nodes r f.0 high within) low_same
            ∙ from_any k left (diagram_node d.nodes f.0).hi (below lo.0 ns) (omega (arith, fits)) (omega (arith, p.hi_below, within)) (omega (arith, p.hi_later, t))
            ∙ ap (λ (j : ℕ). below j (below lo.0 ns)) (sym hi_is)

        last_node : node_at (top d.nodes f.0) (suc left) (from d.nodes (top d.nodes f.0) f.0) ≡ node_of d f
        last_node = (let e : suc left ≡ d.vars - top d.nodes f.0 = omega (arith, fits) in ap (λ (n : ℕ). node_at (top d.nodes f.0) n (from d.nodes (top d.nodes f.0) f.0)) e)

        pub listed_more : (new : NodeList) → HasAdded f last new → HasListed d f old new
        listed_more new a =
            let p = r.proper f.0 high within in
            let ns : List Node = map (node_of d) old.nodes.items in
            let mapped : map (node_of d) new.nodes.items ≡ map (node_of d) last.nodes.items ++ node_of d f ∷ [] =
            ap (λ (hs : List H). map (node_of d) hs) a.nodes ∙ map-append (node_of d) last.nodes.items (f ∷ []) in
            let listed : map (node_of d) last.nodes.items ≡ below hi.0 (below lo.0 ns) = two.nodes ∙ ap (below hi.0) one.nodes in
            record {
              numbered = numbered_more (length d.nodes) f last new two.numbered high within still_free a;
              nodes = mapped ∙ sym (node_below left f.0 ns fits high within
                  ∙ ap (λ (b : Bool). cond b ns (with_nodes left (suc (top d.nodes f.0)) (fixed true (from d.nodes (top d.nodes f.0) f.0))
                  (with_nodes left (suc (top d.nodes f.0)) (fixed false (from d.nodes (top d.nodes f.0) f.0)) ns) ++ node_at (top d.nodes f.0) (suc left) (from d.nodes (top d.nodes f.0) f.0) ∷ []))
                  (free_test d r f.0 left within fits old s free)
                  ∙ ap₂ (λ (ms : List Node) (n : Node). ms ++ n ∷ []) (branches_listed ns ∙ sym listed) last_node);
              above = λ k up. ap (λ (xs : List ℕ). get_or xs k 0) a.numbers ∙ get_or-set_other last.numbers.items f.0 k (2 + length last.nodes.items) 0 (omega (arith, up)) ∙ two.above k (omega (arith, hi_is, p.hi_below, up)) ∙ one.above k (omega (arith, lo_is, p.lo_below, up));
            }
