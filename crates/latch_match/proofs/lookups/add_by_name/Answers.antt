use Rattle.std.proofs.Common.{ap, arith, get_or}
use Rattle.std.proofs.lemmas.Option.{slice_get-get_or}
use Rattle.latch_match.specs.Looked.{by_name}
use Rattle.name_tables.specs.Tables.{named}
use Rattle.name_tables.proofs.TableLaws.{more_named}
use Rattle.latch_match.proofs.lookups.add_by_name.Goals as goal

pub loop-signal-preserved : goal.loop-signal-preserved
loop-signal-preserved c =
    let x = get_or c.args.signals.now c.loop-signal.signal-index 0 in
    more_named (by_name c.args.flat.now) c.args.signals.now c.loop-signal.signal-index x c.signal_name.result.now x c.loop-signal.table c.add.new.self
    (slice_get-get_or c.args.signals.now c.loop-signal.signal-index 0 (omega arith)) (ap (λ n. named n x) c.signal_name.ensures) c.loop-signal.invariant c.in_ok-add.ensures
