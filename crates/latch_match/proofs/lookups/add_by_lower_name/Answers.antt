use Rattle.std.proofs.Common.{arith, get_or, refl}
use Rattle.std.specs.Str.{str_to_ascii_lowercase}
use Rattle.std.proofs.lemmas.Option.{slice_get-get_or}
use Rattle.vrt_model.specs.Elements.{signal_name}
use Rattle.latch_match.specs.Looked.{by_lower_name}
use Rattle.name_tables.proofs.TableLaws.{more_named}
use Rattle.latch_match.proofs.lookups.add_by_lower_name.Goals as goal

pub loop-signal-preserved : goal.loop-signal-preserved
loop-signal-preserved c =
    let x = get_or c.args.signals.now c.loop-signal.signal-index 0 in
    more_named (by_lower_name c.args.flat.now) c.args.signals.now c.loop-signal.signal-index x (str_to_ascii_lowercase (signal_name c.args.flat.now x)) x c.loop-signal.table c.add_lowered.new.table
    (slice_get-get_or c.args.signals.now c.loop-signal.signal-index 0 (omega arith)) refl c.loop-signal.invariant c.in_ok-add_lowered.ensures
