-- Lists in which no node stands at two places.
use Rattle.std.proofs.Common.{◌≡◌, ℕ, ◌<◌, ◌≤◌, List, [], ◌∷◌, ◌++◌, length, get_or, take, refl, sym, ap, ◌∙◌, inl, inr, arith, length-take-le}
use Rattle.std.specs.List.{Contains}
use Rattle.std.proofs.lemmas.List.{get_or_append_left, get_or-take, get_or_push, length_push, get_or_default}
use Rattle.std.proofs.lemmas.Bool.{cases_lt}
use Rattle.node_pool.specs.declared.region.Node.{Node}
use Rattle.node_pool.specs.Region.{no_node}
use Rattle.node_pool.specs.Inside.{IsOnce}

-- a node that was not there may be appended
pub once_push : (nodes : List Node) (n : Node) → IsOnce nodes → (Contains nodes n → ⊥) → IsOnce (nodes ++ n ∷ [])
once_push nodes n once new i j in_i in_j same =
    let here : get_or (nodes ++ n ∷ []) (length nodes) no_node ≡ n = get_or_push nodes n no_node (length nodes) refl in
    let before : (k : ℕ) → k < length nodes → get_or (nodes ++ n ∷ []) k no_node ≡ get_or nodes k no_node = λ k within. get_or_append_left nodes (n ∷ []) no_node k within in
    let last : (k : ℕ) → length nodes ≤ k → k < length (nodes ++ n ∷ []) → k ≡ length nodes = λ k from below. omega (arith, length_push nodes n, from, below) in
    let found : (k : ℕ) → k < length nodes → get_or nodes k no_node ≡ n → Contains nodes n = λ k within is. (k, within, get_or_default nodes k n no_node within ∙ is) in
    elim (cases_lt i (length nodes)) [
      | inl low ↦ elim (cases_lt j (length nodes)) [
        | inl low' ↦ once i j low low' (sym (before i low) ∙ same ∙ before j low')
        | inr high' ↦ absurd (new (found i low (sym (before i low) ∙ same ∙ ap (λ k. get_or (nodes ++ n ∷ []) k no_node) (last j high' in_j) ∙ here)))
      ]
      | inr high ↦ elim (cases_lt j (length nodes)) [
        | inl low' ↦ absurd (new (found j low' (sym (before j low') ∙ sym same ∙ ap (λ k. get_or (nodes ++ n ∷ []) k no_node) (last i high in_i) ∙ here)))
        | inr high' ↦ last i high in_i ∙ sym (last j high' in_j)
      ]
    ]

-- nodes may be cut off
pub once_cut : (nodes : List Node) (n : ℕ) → IsOnce nodes → n ≤ length nodes → IsOnce (take n nodes)
once_cut nodes n once within i j in_i in_j is =
    let len : length (take n nodes) ≡ n = length-take-le n nodes within in
    let same : (k : ℕ) → k < n → get_or (take n nodes) k no_node ≡ get_or nodes k no_node = λ k below. get_or-take n nodes k no_node below in
    let low : i < n = omega (arith, len, in_i) in
    let low' : j < n = omega (arith, len, in_j) in
    once i j (omega arith) (omega arith) (sym (same i low) ∙ is ∙ same j low')
