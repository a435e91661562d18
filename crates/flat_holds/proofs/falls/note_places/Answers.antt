use Rattle.std.proofs.Common.{List, arith, refl, subst}
use Rattle.std.proofs.lemmas.Option.{slice_get_read}
use Rattle.flat_holds.proofs.NoteLaws.{next_place}
use Rattle.flat_holds.specs.Falls.{best_from}
use Rattle.net_places.specs.declared.places.Place.{Place}
use Rattle.vrt_model.specs.Lists.{At}
use Rattle.flat_holds.proofs.falls.note_places.Goals as goal

pub note_place-requires : goal.note_place-requires
note_place-requires c =
    c.requires c.place-item.result (
      c.loop-number.number,
      subst (λ (ps : List Place). At ps c.loop-number.number c.place-item.result) c.as_slice-place-items.ensures
          (slice_get_read c.as_slice-place-items.result.now _ c.loop-number.number _ refl (omega (arith, c.loop-number-test.true)) c.place-item.is),
    )

pub loop-number-preserved : goal.loop-number-preserved
loop-number-preserved c =
    next_place c.args.design.now c.args.rules.now c.args.holds.now c.args.unrolled.now
    (λ n. best_from c.args.design.now c.args.rules.now c.args.holds.now c.args.unrolled.now n 0 c.args.unrolled.now.places) c.loop-number.number c.place-item.result
    c.args.table.now.items c.loop-number.table.items c.note_place.new.table.items
    (subst (λ (ps : List Place). At ps c.loop-number.number c.place-item.result) c.as_slice-place-items.ensures
    (slice_get_read c.as_slice-place-items.result.now _ c.loop-number.number _ refl (omega (arith, c.loop-number-test.true)) c.place-item.is))
    c.loop-number.invariant c.note_place.ensures
