use Rattle.std.proofs.Common.{arith, get_or}
use Rattle.std.proofs.lemmas.Option.{slice_get-get_or}
use Rattle.latch_match.specs.Looked.{ruled_at}
use Rattle.name_tables.specs.Tables.{first_value}
use Rattle.latch_match.proofs.TableLaws.{more_ruled}
use Rattle.latch_match.proofs.lookups.add_signals.Goals as goal

pub loop-place-preserved : goal.loop-place-preserved
loop-place-preserved c =
    let x = get_or c.args.places.now c.loop-place.place-index 0 in
    more_ruled (ruled_at (first_value c.args.signals.now) c.args.rules.now) c.args.places.now c.loop-place.place-index x c.loop-place.table c.add_signal.new.table
    (slice_get-get_or c.args.places.now c.loop-place.place-index 0 (omega arith)) c.loop-place.invariant c.in_ok-add_signal.ensures
