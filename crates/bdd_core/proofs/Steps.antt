-- One node more, and fewer nodes.
use Rattle.std.proofs.Common.{◌≡◌, ℕ, ◌<◌, ◌≤◌, ◌≢◌, true, false, cond, List, [], ◌∷◌, ◌++◌, length, take, refl, sym, ap, ◌∙◌, inl, inr, arith, length-take-le}
use Rattle.std.specs.List.{Contains}
use Rattle.std.proofs.lemmas.List.{get_or_append_left, get_or-take, get_or_push, length_push, get_or_default}
use Rattle.std.proofs.lemmas.Bool.{cases_lt}
use Rattle.node_pool.specs.declared.region.Node.{Node}
use Rattle.bdd_core.specs.Diagram.{with_bit, Valuation, Function, IsSame, no_node, node_at, meaning, top, IsProper, IsReduced, Lacks, choice}
use Rattle.bdd_core.proofs.Meaning.{meaning-append, meaning_node}
use Rattle.bdd_core.proofs.Canonical.{canonical, independent, hi_by_bit, lo_by_bit, top_end}
use Rattle.bdd_core.proofs.Growth.{IsFrom, sub_refl}

pub top-append : (nodes more : List Node) (i : ℕ) → i < length nodes → top (nodes ++ more) i ≡ top nodes i
unfolding top
top-append nodes more i within = ap (λ n. n.var) (get_or_append_left nodes more no_node i within)

pub top-take : (nodes : List Node) (m i : ℕ) → i < m → top (take m nodes) i ≡ top nodes i
unfolding top
top-take nodes m i below = ap (λ n. n.var) (get_or-take m nodes i no_node below)

proper-append : (vars : ℕ) (nodes more : List Node) (n : Node) (i : ℕ) → i ≤ length nodes → IsProper vars nodes n i → IsProper vars (nodes ++ more) n i
proper-append vars nodes more n i within p = record {
  lo_below = p.lo_below;
  hi_below = p.hi_below;
  differ = p.differ;
  lo_later = omega (arith, p.lo_later, top-append nodes more n.lo (omega (arith, p.lo_below)));
  hi_later = omega (arith, p.hi_later, top-append nodes more n.hi (omega (arith, p.hi_below)));
  var_below = p.var_below;
}

proper-take : (vars : ℕ) (nodes : List Node) (m : ℕ) (n : Node) (i : ℕ) → i ≤ m → IsProper vars nodes n i → IsProper vars (take m nodes) n i
proper-take vars nodes m n i within p = record {
  lo_below = p.lo_below;
  hi_below = p.hi_below;
  differ = p.differ;
  lo_later = omega (arith, p.lo_later, top-take nodes m n.lo (omega (arith, p.lo_below)));
  hi_later = omega (arith, p.hi_later, top-take nodes m n.hi (omega (arith, p.hi_below)));
  var_below = p.var_below;
}

pub reduced_push : (vars : ℕ) (nodes : List Node) (n : Node) → IsReduced vars nodes → IsProper vars nodes n (length nodes) → (Contains nodes n → ⊥) → IsReduced vars (nodes ++ n ∷ [])
reduced_push vars nodes n r p new =
    let here : node_at (nodes ++ n ∷ []) (length nodes) ≡ n = get_or_push nodes n no_node (length nodes) refl in
    let before : (i : ℕ) → i < length nodes → node_at (nodes ++ n ∷ []) i ≡ node_at nodes i = λ i within. get_or_append_left nodes (n ∷ []) no_node i within in
    let last : (i : ℕ) → length nodes ≤ i → i < length (nodes ++ n ∷ []) → i ≡ length nodes = λ i from below. omega (arith, length_push nodes n, from, below) in
    let found : (i : ℕ) → i < length nodes → node_at nodes i ≡ n → Contains nodes n = λ i within is. (i, within, get_or_default nodes i n no_node within ∙ is) in
    record {
      ends = omega (arith, length_push nodes n, r.ends);
      zero_end = top-append nodes (n ∷ []) 0 (omega (arith, r.ends)) ∙ r.zero_end;
      one_end = top-append nodes (n ∷ []) 1 (omega (arith, r.ends)) ∙ r.one_end;
      proper = λ i high below. elim (cases_lt i (length nodes)) [
        | inl low ↦ rw (before i low) (proper-append vars nodes (n ∷ []) (node_at nodes i) i (omega arith) (r.proper i high low))
        | inr above ↦ rw (last i above below, here) (proper-append vars nodes (n ∷ []) n (length nodes) (omega arith) p)
      ];
      once = λ i j in_i in_j same. elim (cases_lt i (length nodes)) [
        | inl low ↦ elim (cases_lt j (length nodes)) [
          | inl low' ↦ r.once i j low low' (sym (before i low) ∙ same ∙ before j low')
          | inr high' ↦ absurd (new (found i low (sym (before i low) ∙ same ∙ ap (node_at (nodes ++ n ∷ [])) (last j high' in_j) ∙ here)))
        ]
        | inr high ↦ elim (cases_lt j (length nodes)) [
          | inl low' ↦ absurd (new (found j low' (sym (before j low') ∙ sym same ∙ ap (node_at (nodes ++ n ∷ [])) (last i high in_i) ∙ here)))
          | inr high' ↦ last i high in_i ∙ sym (last j high' in_j)
        ]
      ];
    }

pub reduced_take : (vars : ℕ) (nodes : List Node) (m : ℕ) → IsReduced vars nodes → 2 ≤ m → m ≤ length nodes → IsReduced vars (take m nodes)
reduced_take vars nodes m r two within =
    let len : length (take m nodes) ≡ m = length-take-le m nodes within in
    let same : (i : ℕ) → i < m → node_at (take m nodes) i ≡ node_at nodes i = λ i below. get_or-take m nodes i no_node below in
    record {
      ends = omega (arith, len, two);
      zero_end = top-take nodes m 0 (omega (arith, two)) ∙ r.zero_end;
      one_end = top-take nodes m 1 (omega (arith, two)) ∙ r.one_end;
      proper = λ i high below. let low : i < m = omega (arith, len, below) in rw (same i low) (proper-take vars nodes m (node_at nodes i) i (omega arith) (r.proper i high (omega arith)));
      once = λ i j in_i in_j is.
          let low : i < m = omega (arith, len, in_i) in
          let low' : j < m = omega (arith, len, in_j) in
          r.once i j (omega arith) (omega arith) (sym (same i low) ∙ is ∙ same j low');
    }

-- a new node has the function of its branches
pub meaning_push : (vars : ℕ) (nodes : List Node) (n : Node) → 2 ≤ length nodes → IsProper vars nodes n (length nodes) → (v : Valuation) → meaning (nodes ++ n ∷ []) (length nodes) v ≡ cond (v n.var) (meaning nodes n.hi v) (meaning nodes n.lo v)
meaning_push vars nodes n two p v =
    let here : node_at (nodes ++ n ∷ []) (length nodes) ≡ n = get_or_push nodes n no_node (length nodes) refl in
    let step = meaning_node (nodes ++ n ∷ []) v (length nodes) two (rw here p.lo_below) (rw here p.hi_below) in
    step ∙ rw here (rw (meaning-append nodes (n ∷ []) n.hi v p.hi_below, meaning-append nodes (n ∷ []) n.lo v p.lo_below) refl)

-- where a node is not there, neither is its function
pub lacks_node : (vars : ℕ) (nodes : List Node) (n : Node) (f : Function) → IsReduced vars nodes → IsProper vars nodes n (length nodes) → (Contains nodes n → ⊥) →
    IsSame (λ v. cond (v n.var) (meaning nodes n.hi v) (meaning nodes n.lo v)) f → Lacks nodes f
lacks_node vars nodes n f r p new is = record {
  sub = f;
  of = sub_refl f;
  absent = λ i within same.
      let at = canonical vars (nodes ++ n ∷ []) (reduced_push vars nodes n r p new) i (length nodes) (omega (arith, length_push nodes n, within)) (omega (arith, length_push nodes n))
      (λ v. meaning-append nodes (n ∷ []) i v within ∙ same v ∙ sym (is v) ∙ sym (meaning_push vars nodes n r.ends p v)) in
      omega (arith, at, within);
}

-- a node that is there has the function of its branches
pub meaning_there : (vars : ℕ) (nodes : List Node) (n : Node) (i : ℕ) → IsReduced vars nodes → n.lo ≢ n.hi → i < length nodes → n.lo < length nodes → node_at nodes i ≡ n → n.var < vars → (v : Valuation) → meaning nodes i v ≡ cond (v n.var) (meaning nodes n.hi v) (meaning nodes n.lo v)
unfolding top
meaning_there vars nodes n i r differ within lo_in is var v = elim (cases_lt i 2) [
  | inl low ↦ absurd (omega (arith, top_end vars nodes r i low, ap (λ m. m.var) is))
  | inr high ↦
      let p = r.proper i high within in
      meaning_node nodes v i high p.lo_below p.hi_below ∙ rw is refl
]

-- a place whose function reads no variable before m tests none
pub top_from : (vars : ℕ) (nodes : List Node) (m i : ℕ) → IsReduced vars nodes → i < length nodes → m ≤ vars → IsFrom m (meaning nodes i) → m ≤ top nodes i
top_from vars nodes m i r within m_le from = elim (cases_lt (top nodes i) m) [
  | inr done ↦ done
  | inl early ↦ elim (cases_lt i 2) [
    | inl low ↦ omega (arith, top_end vars nodes r i low)
    | inr high ↦
        let p = r.proper i high within in
        absurd (p.differ (canonical vars nodes r (node_at nodes i).lo (node_at nodes i).hi (omega (arith, p.lo_below)) (omega (arith, p.hi_below))
        (λ v. lo_by_bit vars nodes r i high within v
        ∙ from (with_bit v (top nodes i) false) (with_bit v (top nodes i) true) (λ y later. grind (arith, early))
        ∙ sym (hi_by_bit vars nodes r i high within v))))
  ]
]

pub from_meaning : (vars : ℕ) (nodes : List Node) (x i : ℕ) → IsReduced vars nodes → i < length nodes → x ≤ top nodes i → IsFrom x (meaning nodes i)
from_meaning vars nodes x i r within le v w same = independent vars nodes r i within v w (λ y later. same y (omega arith))

pub from_choice : (c g h : Function) (x : ℕ) → IsFrom x c → IsFrom x g → IsFrom x h → IsFrom x (choice c g h)
from_choice c g h x fc fg fh v w same = rw (fc v w same, fg v w same, fh v w same) refl
