use Rattle.std.proofs.Common.{arith, get_or}
use Rattle.std.proofs.lemmas.Option.{slice_get-get_or}
use Rattle.latch_match.specs.Looked.{clock_at}
use Rattle.latch_match.proofs.TableLaws.{more_ruled}
use Rattle.latch_match.proofs.lookups.add_clocks.Goals as goal

pub loop-place-preserved : goal.loop-place-preserved
loop-place-preserved c =
    let x = get_or c.args.places.now c.loop-place.place-index 0 in
    more_ruled (clock_at c.args.rules.now) c.args.places.now c.loop-place.place-index x c.loop-place.table c.add_clock.new.table
    (slice_get-get_or c.args.places.now c.loop-place.place-index 0 (omega arith)) c.loop-place.invariant c.in_ok-add_clock.ensures
