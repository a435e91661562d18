-- When a finding is the first of its phase, where only fights, floats and differences of outputs can stand first.
use Rattle.std.proofs.Common.{◌≡◌, ℕ, ◌⊎◌, Bool, true, false, List, sym, subst, refl, inl, inr}
use Rattle.model_laws.specs.FirstFinding.{IsCovered}
use Rattle.vrt_model.proofs.FirstFinding.{IsOpen, found, tri_places}
use Rattle.vrt_model.specs.Comparison.{Comparison}
use Rattle.vrt_model.specs.Places.{IsFinding, IsFirstInPhase, IsNoLater, IsOrder, comes_before, standing}
use Rattle.vrt_model.specs.Variables.{is_less}
use Rattle.vrt_model.specs.declared.verdict.FaultKind.{FaultKind}
use Rattle.vrt_model.specs.declared.verdict.FaultKind.TheVariants.{Fight, FightKept, Float, Unsettled, Constraint, Differs, Next, Apart, Enter}

module _ (k : Comparison) (phase : ℕ) (kind : FaultKind) (at : ℕ) (bits : List Bool) (rank least : ℕ → ℕ)
    (open_kind : IsOpen kind)
    (none_before : (other : FaultKind) (there : ℕ) (more : List Bool) → IsOpen other → IsFinding k (found phase other there more)
    → comes_before (standing k phase rank least other there) (standing k phase rank least kind at) ≡ true → ⊥)
    (none_less : (more : List Bool) → IsFinding k (found phase kind at more) → is_less more bits ≡ false) where
  -- an open finding is no earlier
  open_later : (other : FaultKind) (there : ℕ) (more : List Bool) → IsOpen other → IsFinding k (found phase other there more)
      → IsNoLater k phase rank least (found phase kind at bits) (found phase other there more)
  open_later other there more o f =
      elim (tri_places k phase rank least kind other at there open_kind o) [
        | inl before ↦ inl before
        | inr rest ↦ elim rest [
          | inl same ↦ inr (same.kinds, same.places, none_less more (subst (λ (n : ℕ). IsFinding k (found phase kind n more)) (sym same.places) (subst (λ (d : FaultKind). IsFinding k (found phase d there more)) (sym same.kinds) f)))
          | inr after ↦ absurd (none_before other there more o f after)
        ]
      ]

  -- a kept fight, or an unsettled net, comes after the bare fight or float that it comes with
  covered_later : (kept : FaultKind) (there : ℕ) (more : List Bool)
      → ((d : FaultKind) (n : ℕ) → IsOpen d → (comes_before (standing k phase rank least d n) (standing k phase rank least kept there) ≡ true) ⊎ (d ≡ Differs))
      → IsFinding k (found phase Fight there more) ⊎ IsFinding k (found phase Float there more)
      → IsNoLater k phase rank least (found phase kind at bits) (found phase kept there more)
  covered_later kept there more first f =
      elim (first kind at open_kind) [
        | inl before ↦ inl before
        | inr is ↦ absurd (elim f [
          | inl fight ↦ none_before Fight there more tt fight (subst (λ (d : FaultKind). comes_before (standing k phase rank least Fight there) (standing k phase rank least d at) ≡ true) (sym is) refl)
          | inr float ↦ none_before Float there more tt float (subst (λ (d : FaultKind). comes_before (standing k phase rank least Float there) (standing k phase rank least d at) ≡ true) (sym is) refl)
        ])
      ]

  any_later : (other : FaultKind) (there : ℕ) (more : List Bool) → IsFinding k (found phase other there more) → IsCovered k phase other there more
      → IsNoLater k phase rank least (found phase kind at bits) (found phase other there more)
  any_later Fight there more f c = open_later Fight there more tt f
  any_later Float there more f c = open_later Float there more tt f
  any_later Differs there more f c = open_later Differs there more tt f
  any_later FightKept there more f c = covered_later FightKept there more early c
    where
      early : (d : FaultKind) (n : ℕ) → IsOpen d → (comes_before (standing k phase rank least d n) (standing k phase rank least FightKept there) ≡ true) ⊎ (d ≡ Differs)
      early Fight n o = inl refl
      early Float n o = inl refl
      early Differs n o = inr refl
      early FightKept n o = absurd o
      early Unsettled n o = absurd o
      early Constraint n o = absurd o
      early Next n o = absurd o
      early Apart n o = absurd o
      early Enter n o = absurd o
  any_later Unsettled there more f c = covered_later Unsettled there more early c
    where
      early : (d : FaultKind) (n : ℕ) → IsOpen d → (comes_before (standing k phase rank least d n) (standing k phase rank least Unsettled there) ≡ true) ⊎ (d ≡ Differs)
      early Fight n o = inl refl
      early Float n o = inl refl
      early Differs n o = inr refl
      early FightKept n o = absurd o
      early Unsettled n o = absurd o
      early Constraint n o = absurd o
      early Next n o = absurd o
      early Apart n o = absurd o
      early Enter n o = absurd o
  any_later Constraint there more f c = absurd c
  any_later Next there more f c = absurd c
  any_later Apart there more f c = absurd c
  any_later Enter there more f c = absurd c

  -- so the finding is the first of its phase
  pub first_in_phase : IsOrder k phase rank least → IsFinding k (found phase kind at bits)
      → ((other : FaultKind) (there : ℕ) (more : List Bool) → IsFinding k (found phase other there more) → IsCovered k phase other there more)
      → IsFirstInPhase k (found phase kind at bits)
  first_in_phase order this covered = record {
    found = this;
    first = (
      rank,
      least,
      order,
      λ other f same.
          let here : IsFinding k (found phase other.kind other.at other.bits) = subst (λ (p : ℕ). IsFinding k (found p other.kind other.at other.bits)) same f in
          any_later other.kind other.at other.bits here (covered other.kind other.at other.bits here),
    );
  }
