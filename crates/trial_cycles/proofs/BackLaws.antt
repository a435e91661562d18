-- Two graphs of nets, of which the first is the second with a part opened: each of its arcs is one of the second or one inside, and what is
-- linked inside is joined by arcs of the second. Where the second has no cycle, the first has none.
use Rattle.std.proofs.Common.{◌≡◌, ℕ, zero, suc, ◌<◌, ◌⊎◌, Bool, true, false, List, [], ◌∷◌, arith, subst, sym, refl, inl, inr}
use Rattle.std.proofs.lemmas.Bool.{cases_Bool}
use Rattle.std.proofs.lemmas.Option.{none-some, same_Some}
use Rattle.graphs.proofs.Acyclic.{none_behind}
use Rattle.vrt_model.proofs.Members.{among_later}
use Rattle.vrt_model.specs.Known.{IsWalk}
use Rattle.vrt_model.specs.Lists.{Among}
use Rattle.vrt_model.specs.Unsupported.{IsAcyclic}
use Rattle.vrt_model.specs.WholeInstances.{IsChain}

-- ---- walks

-- each further net of a walk is behind one of its nets
walk_back : (Arc : ℕ → ℕ → Type 0) (n : ℕ) (nets : List ℕ) (last : ℕ) → IsWalk Arc n nets last → (x : ℕ) → Among nets x → (y : ℕ) × Among (n ∷ nets) y × Arc y x
walk_back Arc n [] last walk x m = absurd (none-some x m.1)
walk_back Arc n (l ∷ nets) last walk x (zero, e) = (n, (0, refl), subst (λ (z : ℕ). Arc n z) (same_Some l x e) walk.0)
walk_back Arc n (l ∷ nets) last walk x (suc i, e) =
    let more = walk_back Arc l nets last walk.1 x (i, e) in
    (more.0, among_later n (l ∷ nets) more.0 more.1, more.2)

-- so is its last net one of them
walk_last : (Arc : ℕ → ℕ → Type 0) (n : ℕ) (nets : List ℕ) (last : ℕ) → IsWalk Arc n nets last → Among (n ∷ nets) last
walk_last Arc n [] last walk = subst (λ (z : ℕ). Among (n ∷ []) z) walk (0, refl)
walk_last Arc n (l ∷ nets) last walk = among_later n (l ∷ nets) last (walk_last Arc l nets last walk.1)

-- ---- two graphs

-- `Meets n k` says that what is at the net n inside is at the net k that remains; `LeadsOut n l` that the net n inside is behind the same nets as
-- the net l, which remains
module _ (Low High Inner Meets LeadsOut : ℕ → ℕ → Type 0) (IsInside : ℕ → Type 0) (at rank : ℕ → ℕ) (remaining : ℕ → Bool) (count : ℕ) where
  -- an arc of the second between nets that remain, or one from inside to what is met there
  abbrev pub IsOuterArc : ℕ → ℕ → Type 0
  IsOuterArc a b = ((remaining a ≡ true) × High a b) ⊎ ((g : ℕ) × (n : ℕ) × (a ≡ at g) × IsInside n × Inner g n × Meets n b)

  -- an arc inside, or one to a net that leads out
  abbrev pub IsInnerArc : ℕ → ℕ → Type 0
  IsInnerArc a b = (n : ℕ) × (b ≡ at n) × IsInside n × (((g : ℕ) × (a ≡ at g) × Inner g n) ⊎ ((l : ℕ) × LeadsOut n l))

  -- the first is the second with a part opened
  pub record AreOpened : Type 0 where
    pub bounded : (a b : ℕ) → Low a b → b < count
    pub outer : (a b : ℕ) → Low a b → remaining b ≡ true → IsOuterArc a b
    pub inner : (a b : ℕ) → Low a b → remaining b ≡ false → IsInnerArc a b
    pub moves : (n l a : ℕ) → LeadsOut n l → Low a (at n) → Low a (at l)
    pub stays : (n l : ℕ) → LeadsOut n l → remaining (at l) ≡ true
    pub rises : (g n : ℕ) → Inner g n → rank g < rank n
    pub own : (g n l : ℕ) → Inner g l → remaining (at g) ≡ false → IsInside n → at g ≡ at n → g ≡ n
    pub linked : (g n k : ℕ) → IsInside n → IsChain Inner g n → Meets n k → remaining k ≡ true → remaining (at g) ≡ true → High (at g) k
    pub linked_beside : (g n k l : ℕ) → IsInside n → IsChain Inner g n → Meets n k → remaining k ≡ true → LeadsOut g l → High (at l) k

  module _ (opened : AreOpened) (free : IsAcyclic High) (P : ℕ → Type 0) (back : (k : ℕ) → P k → (a : ℕ) × P a × Low a k)
      (moved : (n l : ℕ) → LeadsOut n l → P (at n) → P (at l)) where
    -- back along arcs inside to a net that remains
    find : (fuel g n k : ℕ) → rank g < fuel → P (at g) → IsInside n → IsChain Inner g n → Meets n k → remaining k ≡ true
        → (u : ℕ) × P u × (remaining u ≡ true) × High u k
    find zero g n k lt p inside chain meets stays = absurd (omega (arith, lt))
    find (suc fuel) g n k lt p inside chain meets stays =
        elim (cases_Bool (remaining (at g))) [
          | inl here ↦ (at g, p, here, opened.linked g n k inside chain meets stays here)
          | inr gone ↦
              let from = back (at g) p in
              let arc = opened.inner from.0 (at g) from.2 gone in
              let same = opened.own g arc.0 chain.0 chain.2 gone arc.2 arc.1 in
              elim arc.3 [
                | inl (h, there, step) ↦
                    let next : Inner h g = subst (λ (x : ℕ). Inner h x) (sym same) step in
                    let up = opened.rises h g next in
                    find fuel h n k (omega (arith, lt, up)) (subst P there from.1) inside (g, chain.0 ∷ chain.1, next, (chain.2, chain.3)) meets stays
                | inr (l, out) ↦
                    let exits : LeadsOut g l = subst (λ (x : ℕ). LeadsOut x l) (sym same) out in
                    (at l, moved g l exits p, opened.stays g l exits, opened.linked_beside g n k l inside chain meets stays exits)
              ]
        ]

    -- a net that remains is behind one
    behind : (k : ℕ) → P k × (remaining k ≡ true) → (a : ℕ) × (P a × (remaining a ≡ true)) × High a k
    behind k p =
        let from = back k p.0 in
        elim (opened.outer from.0 k from.2 p.1) [
          | inl outer ↦ (from.0, (from.1, outer.0), outer.1)
          | inr (g, n, there, inside, step, meets) ↦
              let found = find (suc (rank g)) g n k (omega arith) (subst P there from.1) inside (n, [], step, refl) meets p.1 in
              (found.0, (found.1, found.2), found.3)
        ]

    none_remains : (k : ℕ) → P k → remaining k ≡ true → ⊥
    none_remains k p stays =
        none_behind High count free (λ (x : ℕ). P x × (remaining x ≡ true)) (λ x q. let from = back x q.0 in opened.bounded from.0 x from.2) behind k (p, stays)

    none_out : (n l : ℕ) → LeadsOut n l → P (at n) → ⊥
    none_out n l out p = none_remains (at l) (moved n l out p) (opened.stays n l out)

    none_inside : (fuel g l : ℕ) → rank g < fuel → Inner g l → P (at g) → ⊥
    none_inside zero g l lt arc p = omega (arith, lt)
    none_inside (suc fuel) g l lt arc p =
        elim (cases_Bool (remaining (at g))) [
          | inl here ↦ none_remains (at g) p here
          | inr gone ↦
              let from = back (at g) p in
              let inner = opened.inner from.0 (at g) from.2 gone in
              let same = opened.own g inner.0 l arc gone inner.2 inner.1 in
              elim inner.3 [
                | inl (h, there, step) ↦
                    let next : Inner h g = subst (λ (x : ℕ). Inner h x) (sym same) step in
                    let up = opened.rises h g next in
                    none_inside fuel h g (omega (arith, lt, up)) next (subst P there from.1)
                | inr (k, out) ↦ none_out g k (subst (λ (x : ℕ). LeadsOut x k) (sym same) out) p
              ]
        ]

    -- so there is no set of nets each of which is behind one of them
    none_there : (k : ℕ) → P k → ⊥
    none_there k p =
        elim (cases_Bool (remaining k)) [
          | inl here ↦ none_remains k p here
          | inr gone ↦
              let from = back k p in
              let inner = opened.inner from.0 k from.2 gone in
              elim inner.3 [
                | inl (g, there, step) ↦ none_inside (suc (rank g)) g inner.0 (omega arith) step (subst P there from.1)
                | inr (l, out) ↦ none_out inner.0 l out (subst P inner.1 p)
              ]
        ]

  -- the nets behind those of a cycle would be such a set
  pub opened_is_acyclic : AreOpened → IsAcyclic High → IsAcyclic Low
  opened_is_acyclic opened free [] cycle = cycle
  opened_is_acyclic opened free (n ∷ nets) cycle =
      none_there opened free (λ (x : ℕ). (a : ℕ) × Among (n ∷ nets) a × Low a x) (λ k p. (p.0, by_place p.0 p.1, p.2))
      (λ m l out p. (p.0, p.1, opened.moves m l p.0 out p.2)) n (by_place n (0, refl))
    where
      by_place : (k : ℕ) → Among (n ∷ nets) k → (a : ℕ) × Among (n ∷ nets) a × Low a k
      by_place k (zero, e) = (cycle.0, walk_last Low n nets cycle.0 cycle.1, subst (λ (z : ℕ). Low cycle.0 z) (same_Some n k e) cycle.2)
      by_place k (suc i, e) = walk_back Low n nets cycle.0 cycle.1 k (i, e)
