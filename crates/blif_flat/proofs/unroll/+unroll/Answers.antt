use Rattle.std.proofs.Common.{◌≡◌, ◌-◌, ◌≤◌, ◌+◌, ℕ, suc, length, refl, ap, sym, subst, ◌∙◌, arith}
use Rattle.std.proofs.lemmas.Option.{slice_get_read}
use Rattle.vrt_model.specs.FlatBlif.{ModelPlace, inner_count, model_at, models_in}
use Rattle.vrt_model.specs.declared.blif.Blif.{Blif}
use Rattle.blif_flat.specs.Places.{place_in, places_of, size_of, with_places}
use Rattle.blif_checks.proofs.NameLaws.{model_there}
use Rattle.blif_flat.proofs.PlaceLaws.{end_at, first_turn, fits_at, no_model, place_room, room_at, turn_at, with_own}
use Rattle.blif_flat.proofs.unroll.+unroll.Goals as goal

pub returns-in_default : goal.returns-in_default
unfolding places_of
returns-in_default t c = no_model c.args.blif.now c.args.depth (place_in c.args.place.now) c.args.parts.now (sym c.in_default.ensures)

pub add_own-requires : goal.add_own-requires
add_own-requires t c =
    place_room c.args.blif.now c.args.depth c.args.place.now c.requires.is_place (omega (arith, c.requires.base, c.requires.room))

pub returns-then-depth-eq0 : goal.returns-then-depth-eq0
unfolding places_of
returns-then-depth-eq0 t c =
    with_own c.args.blif.now c.args.place.now c.in-Some.model.now c.args.parts.now c.add_own.new.parts c.requires.is_place
    (model_there c.args.blif.now c.args.place.now.model c.in-Some.model.now (sym c.in-Some.ensures)) c.in_ok-add_own.ensures
    ∙ ap (λ d. with_places c.args.blif.now (models_in c.args.blif.now d (place_in c.args.place.now)) c.args.parts.now) (sym c.if-depth-eq0.true)

room_again : (blif : Blif) (at : ModelPlace) (depth n : ℕ) → suc (depth - 1) ≡ depth → n + size_of blif depth at ≤ 20000 → n + inner_count blif (suc (depth - 1)) (model_at blif at.model) at.tied ≤ 20000
unfolding size_of
room_again blif at depth n e room = subst (λ d. n + inner_count blif d (model_at blif at.model) at.tied ≤ 20000) (sym e) room

pub loop-number-init : goal.loop-number-init
unfolding size_of
loop-number-init t c =
    first_turn c.args.blif.now c.args.place.now (c.args.depth - 1) c.in-Some.model.now c.as_slice-sub-items.result.now c.args.parts.now c.add_own.new.parts c.requires.is_place
    (model_there c.args.blif.now c.args.place.now.model c.in-Some.model.now (sym c.in-Some.ensures)) c.as_slice-sub-items.ensures c.in_ok-add_own.ensures c.requires.base
    (room_again c.args.blif.now (place_in c.args.place.now) c.args.depth (length c.args.parts.now.signals) (omega (arith, c.if-depth-eq0.false)) c.requires.room)

pub overflow_cast-base : goal.overflow_cast-base
overflow_cast-base t c = omega (arith, c.loop-number.invariant.room, c.len-base.ensures)

pub sub_place-requires-clause-fits : goal.sub_place-requires-clause-fits
sub_place-requires-clause-fits t c =
    fits_at c.args.blif.now c.args.place.now.model c.in-Some.model.now c.as_slice-sub-items.result.now c.loop-number.number c.sub-item.result c.requires.subs
    (model_there c.args.blif.now c.args.place.now.model c.in-Some.model.now (sym c.in-Some.ensures)) c.as_slice-sub-items.ensures
    (slice_get_read c.as_slice-sub-items.result.now _ c.loop-number.number _ refl (omega arith) c.sub-item.is)

pub sub_place-requires-clause-room : goal.sub_place-requires-clause-room
sub_place-requires-clause-room t c =
    place_room c.args.blif.now c.args.depth c.args.place.now c.requires.is_place (omega (arith, c.requires.base, c.requires.room))

pub unroll-requires : goal.unroll-requires
unfolding size_of
unroll-requires t c = (
  omega (arith, c.decreases),
  (
    c.requires.tables,
    (
      c.requires.lists,
      (
        c.requires.subs,
        (
          c.in_ok-inner.ensures.place,
          (
            ap (λ (p : ModelPlace). p.base) c.in_ok-inner.ensures.is_placed ∙ c.len-base.ensures,
            room_at c.args.blif.now (place_in c.args.place.now) (place_in c.in_ok-inner.inner) (c.args.depth - 1) c.loop-number.number c.len-base.result c.as_slice-sub-items.result.now c.sub-item.result c.loop-number.parts _
                (omega arith) (slice_get_read c.as_slice-sub-items.result.now _ c.loop-number.number _ refl (omega arith) c.sub-item.is) c.loop-number.invariant c.in_ok-inner.ensures.is_placed,
          ),
        ),
      ),
    ),
  ),
)

pub loop-number-preserved : goal.loop-number-preserved
unfolding places_of
loop-number-preserved t c =
    turn_at c.args.blif.now (place_in c.args.place.now) (place_in c.in_ok-inner.inner) (c.args.depth - 1) c.loop-number.number c.len-base.result c.as_slice-sub-items.result.now c.sub-item.result c.loop-number.parts c.unroll.new.parts _
    (omega arith) (slice_get_read c.as_slice-sub-items.result.now _ c.loop-number.number _ refl (omega arith) c.sub-item.is) c.loop-number.invariant c.len-base.ensures c.in_ok-inner.ensures.is_placed c.in_ok-unroll.ensures

pub returns : goal.returns
unfolding places_of
returns t c =
    end_at c.args.blif.now (place_in c.args.place.now) c.args.depth (c.args.depth - 1) c.loop-number.number c.as_slice-sub-items.result.now c.loop-number.parts c.args.parts.now (omega (arith, c.loop-number-test.false))
    (omega (arith, c.if-depth-eq0.false)) c.loop-number.invariant
