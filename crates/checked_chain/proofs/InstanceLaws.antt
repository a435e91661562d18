-- The instances of a circuit in which some are whole, by their places in the flat circuit.
use Rattle.std.proofs.Common.{◌≡◌, ℕ, suc, Bool, true, not, List, [], ◌∷◌, drop, subst, sym, refl, ◌∙◌, ap}
use Rattle.std.specs.Prelude.{filter, option_map, slice_get, unwrap_or}
use Rattle.std.proofs.lemmas.Option.{slice_get-map}
use mathlib.Core.Path.{fun_ext}
use Rattle.checked_chain.proofs.KeptPlaces.{at_kept, counted_apart, is_kept, kept_at}
use Rattle.checked_chain.specs.Instances.{InstancesAreShown, InstancesMove, InstancesStayApart}
use Rattle.vrt_model.proofs.Lists.{at_map, map_at}
use Rattle.vrt_model.specs.Cut.{Cut, count_below, is_inside_whole, is_instance_shown, moved_instance}
use Rattle.vrt_model.specs.FlatCircuit.{flat_instance, flat_instances}
use Rattle.vrt_model.specs.Lists.{At}
use Rattle.vrt_model.specs.Unrolled.{Place, all_places}
use Rattle.vrt_model.specs.declared.circuit.FlatInstance.{FlatInstance}

pub behind_first : {X : Type 0} (xs : List X) (i : ℕ) → slice_get xs (suc i) ≡ slice_get (drop 1 xs) i
behind_first [] i = refl
behind_first (x ∷ xs) i = refl

module _ (cut : Cut) where
  abbrev inner : List Place
  inner = drop 1 (all_places cut.top)

  abbrev stays : Place → Bool
  stays at = not (is_inside_whole cut at)

  shown_is : is_instance_shown cut ≡ is_kept stays inner
  shown_is = fun_ext (λ i. ap (λ o. unwrap_or (option_map stays o) true) (behind_first (all_places cut.top) i))

  moved_is : (i : ℕ) → moved_instance cut i ≡ count_below (is_kept stays inner) i
  moved_is i = ap (λ (f : ℕ → Bool). count_below f i) shown_is

  kept : (i : ℕ) → is_instance_shown cut i ≡ true → is_kept stays inner i ≡ true
  kept i e = subst (λ (f : ℕ → Bool). f i ≡ true) shown_is e

pub instances_move : InstancesMove
instances_move cut i e =
    slice_get-map flat_instance (filter (stays cut) (inner cut)) (moved_instance cut i)
    ∙ ap (λ (k : ℕ). option_map flat_instance (slice_get (filter (stays cut) (inner cut)) k)) (moved_is cut i)
    ∙ ap (option_map flat_instance) (kept_at (stays cut) (inner cut) i (kept cut i e))
    ∙ sym (slice_get-map flat_instance (inner cut) i)

pub instances_are_shown : InstancesAreShown
instances_are_shown cut j x here =
    let place = at_map flat_instance (filter (stays cut) (inner cut)) j x here in
    let from = at_kept (stays cut) (inner cut) j place.0 place.1 in (
      from.0,
      subst (λ (f : ℕ → Bool). f from.0 ≡ true) (sym (shown_is cut)) from.1,
      moved_is cut from.0 ∙ from.2,
      subst (λ (y : FlatInstance). At (flat_instances cut.top) from.0 y) place.2 (map_at flat_instance (inner cut) from.0 place.0 from.3),
    )

pub instances_stay_apart : InstancesStayApart
instances_stay_apart cut i j a b e =
    counted_apart (is_kept (stays cut) (inner cut)) i j (kept cut i a) (kept cut j b) (sym (moved_is cut i) ∙ e ∙ moved_is cut j)
