-- The function of a place.
use Rattle.std.proofs.Common.{◌≡◌, ℕ, zero, suc, ◌<◌, ◌≤◌, true, false, cond, List, ◌++◌, length, get_or, take, drop, refl, sym, ap, ◌∙◌, inl, inr, arith, length-take-le}
use Rattle.std.proofs.lemmas.List.{get_or_append_left, take-append-drop}
use Rattle.std.proofs.lemmas.Bool.{cases_eq}
use Rattle.node_pool.specs.declared.region.Node.{Node}
use Rattle.bdd_core.specs.Diagram.{Valuation, no_node, node_at, value, meaning}

-- a place's value is the same wherever it is in range
pub value_is_meaning : (nodes : List Node) (v : Valuation) (n i : ℕ) → i < n → value nodes v n i ≡ meaning nodes i v
unfolding meaning
value_is_meaning nodes v zero i below = absurd (omega arith)
value_is_meaning nodes v (suc n) i below = elim (cases_eq i n) [
  | inl here ↦ rw here refl
  | inr other ↦ let e : value nodes v (suc n) i ≡ value nodes v n i = grind arith in e ∙ value_is_meaning nodes v n i (omega arith)
]

pub meaning_zero : (nodes : List Node) (v : Valuation) → meaning nodes 0 v ≡ false
unfolding meaning
meaning_zero nodes v = refl

pub meaning_one : (nodes : List Node) (v : Valuation) → meaning nodes 1 v ≡ true
unfolding meaning
meaning_one nodes v = refl

-- a node is its branch at 1 where its variable is 1, and its branch at 0 where it is 0
pub meaning_node : (nodes : List Node) (v : Valuation) (i : ℕ) → 2 ≤ i → (node_at nodes i).lo < i → (node_at nodes i).hi < i → meaning nodes i v ≡ cond (v (node_at nodes i).var) (meaning nodes (node_at nodes i).hi v) (meaning nodes (node_at nodes i).lo v)
unfolding meaning
meaning_node nodes v i proper lo hi =
    let e : value nodes v (suc i) i ≡ cond (v (node_at nodes i).var) (value nodes v i (node_at nodes i).hi) (value nodes v i (node_at nodes i).lo) = grind arith in
    e ∙ rw (value_is_meaning nodes v i _ lo, value_is_meaning nodes v i _ hi) refl

value-append : (nodes more : List Node) (v : Valuation) (n i : ℕ) → n ≤ length nodes → value (nodes ++ more) v n i ≡ value nodes v n i
value-append nodes more v zero i within = refl
value-append nodes more v (suc n) i within =
    let here : get_or (nodes ++ more) n no_node ≡ get_or nodes n no_node = get_or_append_left nodes more no_node n (omega arith) in
    rw (here, value-append nodes more v n (get_or nodes n no_node).hi (omega arith), value-append nodes more v n (get_or nodes n no_node).lo (omega arith), value-append nodes more v n i (omega arith)) refl

-- what is there keeps its function
pub meaning-append : (nodes more : List Node) (i : ℕ) (v : Valuation) → i < length nodes → meaning (nodes ++ more) i v ≡ meaning nodes i v
unfolding meaning
meaning-append nodes more i v within = value-append nodes more v (suc i) i (omega arith)

pub meaning-take : (nodes : List Node) (n i : ℕ) (v : Valuation) → i < n → n ≤ length nodes → meaning (take n nodes) i v ≡ meaning nodes i v
meaning-take nodes n i v below within =
    sym (meaning-append (take n nodes) (drop n nodes) i v (omega (arith, length-take-le n nodes within)))
    ∙ ap (λ ns. meaning ns i v) (take-append-drop n nodes)
