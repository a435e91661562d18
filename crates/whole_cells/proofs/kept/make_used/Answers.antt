use Rattle.std.proofs.Common.{◌≡◌, ◌<◌, ◌⊎◌, ◌∷◌, ℕ, zero, suc, List, length, true, subst, sym, inl, inr}
use Rattle.std.proofs.lemmas.Option.{same_Some}
use Rattle.net_places.specs.declared.places.Place.{Place}
use Rattle.vrt_model.specs.Lists.{Among, mark_at}
use Rattle.whole_cells.proofs.kept.make_used.Goals as goal

-- the first, or one of those behind
first_or_behind : (place : Place) (behind : List Place) (p : Place) → Among (place ∷ behind) p → (p ≡ place) ⊎ Among behind p
first_or_behind place behind p (zero, e) = inl (sym (same_Some place p e))
first_or_behind place behind p (suc i, e) = inr (i, e)

pub places-preserved : goal.places-preserved
places-preserved c =
    let count : ℕ = length c.args.design.now.cells in
    let place : Place = c.in-Some.place.now in
    let behind : List Place = c.in-Some.behind.now in
    let before = c.places.invariant in
    let made = c.make.new.kept.made.items in
    let is = c.in-Some.ensures.cases.0 in
    record {
      kept = c.in_ok-make.ensures.kept;
      each = λ p m. elim (before.each p m) [
        | inl waits ↦ elim (first_or_behind place behind p (subst (λ (ps : List Place). Among ps p) is waits)) [
          | inl here ↦ inr (subst (λ (q : Place). q.cell < count → mark_at made q.cell ≡ true) (sym here) c.in_ok-make.ensures.here)
          | inr later ↦ inl later
        ]
        | inr marked ↦ inr (λ lt. c.in_ok-make.ensures.others p.cell (marked lt))
      ];
    }
