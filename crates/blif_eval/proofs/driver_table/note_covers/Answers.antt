use Rattle.std.proofs.Common.{◌+◌, arith, sym, subst}
use Rattle.vrt_model.proofs.Lists.{item_at}
use Rattle.blif_eval.proofs.DriverLaws.{noted_cover, noted_none}
use Rattle.blif_eval.proofs.Drivers.{covered_below}
use Rattle.blif_eval.specs.Drivers.{AreNoted}
use Rattle.vrt_model.specs.Lists.{At}
use Rattle.blif_eval.proofs.driver_table.note_covers.Goals as goal

pub loop-place-init : goal.loop-place-init
loop-place-init c = noted_none c.args.flat.now c.args.drivers.now.items c.requires.none

pub note-requires : goal.note-requires
note-requires c =
    let flat = c.args.flat.now in
    let there : At flat.covers c.loop-place.place c.cover-item.result =
    item_at flat.covers c.as_slice-cover-items.result.now c.loop-place.place c.cover-item.result c.as_slice-cover-items.ensures c.loop-place-test.true c.cover-item.is in
    let low = covered_below flat c.requires.model c.cover-item.result (c.loop-place.place, there) in
    let size = c.loop-place.invariant.size in
    omega (arith, low, size)

pub loop-place-preserved : goal.loop-place-preserved
loop-place-preserved c =
    let flat = c.args.flat.now in
    let there : At flat.covers c.loop-place.place c.cover-item.result =
    item_at flat.covers c.as_slice-cover-items.result.now c.loop-place.place c.cover-item.result c.as_slice-cover-items.ensures c.loop-place-test.true c.cover-item.is in
    subst (AreNoted flat (c.loop-place.place + 1) 0) (sym c.note.ensures) (noted_cover flat c.loop-place.place c.cover-item.result c.loop-place.drivers.items there c.loop-place.invariant)
