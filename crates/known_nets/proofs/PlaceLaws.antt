-- A number that is put at the end of its owner's list is an arc more.
use Rattle.std.proofs.Common.{◌≡◌, ℕ, zero, suc, ◌+◌, ◌<◌, ◌⊎◌, List, [], ◌∷◌, length, Some, arith, ap, subst, sym, refl, ◌∙◌, inl, inr}
use Rattle.std.proofs.lemmas.Bool.{cases_eq, cases_lt}
use Rattle.std.proofs.lemmas.Option.{none-some, same_Some, slice_get_within}
use Rattle.vrt_model.proofs.Lists.{at_there}
use Rattle.graphs.specs.Graphs.{ArcIn}
use Rattle.known_nets.specs.Placed.{Adds, IsArc, IsPlaced}
use Rattle.vrt_model.proofs.Members.{among_either, among_left, among_right}
use Rattle.vrt_model.specs.Lists.{At, Among}

-- a number below the next bound is below this one, or is this one
pub below_or_at : (n m : ℕ) → m < n + 1 → (m < n) ⊎ (m ≡ n)
below_or_at n m lt = elim (cases_lt m n) [ inl low ↦ inl low | inr high ↦ inr (omega (arith, lt, high)) ]

-- ---- rows

-- an arc is in the list of the number that it leads to
pub arc_row : (graph : List (List ℕ)) (from to : ℕ) → ArcIn graph from to → (row : List ℕ) × At graph to row × Among row from
arc_row [] from to arc = absurd (none-some from arc.1)
arc_row (row ∷ graph) from zero arc = (row, refl, arc)
arc_row (row ∷ graph) from (suc to) arc = arc_row graph from to arc

row_arc : (graph : List (List ℕ)) (from to : ℕ) (row : List ℕ) → At graph to row → Among row from → ArcIn graph from to
row_arc [] from to row at m = absurd (none-some row at)
row_arc (first ∷ graph) from zero row at m = subst (λ (r : List ℕ). Among r from) (sym (same_Some first row at)) m
row_arc (first ∷ graph) from (suc to) row at m = row_arc graph from to row at m

the_one : (n m : ℕ) → Among (n ∷ []) m → m ≡ n
the_one n m (zero, q) = sym (same_Some n m q)
the_one n m (suc i, q) = absurd (none-some m q)

-- ---- numbers that are placed

-- a number placed is an arc more
pub placed_adds : (from to : ℕ) (old new : List (List ℕ)) → IsPlaced (Some to) from old new → Adds (IsArc from to) old new
placed_adds from to old new placed = record {
  count = placed.count;
  only = λ f t arc.
      let at = arc_row new f t arc in
      elim (cases_eq to t) [
        | inl e ↦
            let before = placed.own t at.0 at.1 (ap (λ (x : ℕ). Some x) e) in
            elim (among_either before.0 (from ∷ []) f (subst (λ (r : List ℕ). Among r f) before.2 at.2)) [
              | inl m ↦ inl (row_arc old f t before.0 before.1 m)
              | inr m ↦ inr (the_one from f m, sym e)
            ]
        | inr ne ↦ inl (row_arc old f t at.0 (placed.others t at.0 at.1 (λ e. ne (same_Some to t e))) at.2)
      ];
  stays = λ f t arc.
      let was = arc_row old f t arc in
      let at = row_of t (slice_get_within old t was.0 was.1) in
      elim (cases_eq to t) [
        | inl e ↦
            let before = placed.own t at.0 at.1 (ap (λ (x : ℕ). Some x) e) in
            let same : was.0 ≡ before.0 = same_Some was.0 before.0 (sym was.1 ∙ before.1) in
            row_arc new f t at.0 at.1 (subst (λ (r : List ℕ). Among r f) (sym before.2) (among_left before.0 (from ∷ []) f (subst (λ (r : List ℕ). Among r f) same was.2)))
        | inr ne ↦
            let same : was.0 ≡ at.0 = same_Some was.0 at.0 (sym was.1 ∙ placed.others t at.0 at.1 (λ e. ne (same_Some to t e))) in
            row_arc new f t at.0 at.1 (subst (λ (r : List ℕ). Among r f) same was.2)
      ];
  joined = λ f t arc lt.
      let at = row_of t lt in
      let before = placed.own t at.0 at.1 (ap (λ (x : ℕ). Some x) (sym arc.1)) in
      row_arc new f t at.0 at.1 (subst (λ (r : List ℕ). Among r f) (sym before.2) (among_right before.0 (from ∷ []) f (zero, ap (λ (x : ℕ). Some x) (sym arc.0))));
}
  where
    row_of : (t : ℕ) → t < length old → (row : List ℕ) × At new t row
    row_of t lt = let count = placed.count in at_there new t (omega (arith, lt, count))
