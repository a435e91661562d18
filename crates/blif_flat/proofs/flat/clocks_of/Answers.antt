use Rattle.std.proofs.Common.{arith, refl, not}
use Rattle.std.proofs.lemmas.Option.{slice_get_read}
use Rattle.vrt_model.specs.Lists.{has_name}
use Rattle.blif_flat.specs.Places.{number_in}
use Rattle.blif_flat.proofs.PlaceLaws.{passed_more}
use Rattle.blif_flat.proofs.flat.clocks_of.Goals as goal

pub loop-clock-preserved : goal.loop-clock-preserved
loop-clock-preserved c =
    passed_more (number_in c.args.place.now) (λ name. not (has_name c.args.inputs.now name)) c.args.clocks.now c.loop-clock.clock-index c.clock-item.result c.loop-clock.numbers c.add_clock.new.numbers (omega arith)
    (slice_get_read c.args.clocks.now _ c.loop-clock.clock-index _ refl (omega arith) c.clock-item.is) c.loop-clock.invariant c.in_ok-add_clock.ensures
