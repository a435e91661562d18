use Rattle.std.proofs.Common.{arith, refl}
use Rattle.std.proofs.lemmas.Option.{slice_get_read}
use Rattle.vrt_model.specs.FlatBlif.{latch_signals}
use Rattle.blif_checks.proofs.MentionLaws.{names_more}
use Rattle.blif_checks.proofs.signals.add_latches.Goals as goal

pub loop-latch-preserved : goal.loop-latch-preserved
loop-latch-preserved c =
    names_more latch_signals c.args.latches.now c.loop-latch.latch-index c.latch-item.result c.args.names.now c.loop-latch.names c.add_latch.new.names (omega arith)
    (slice_get_read c.args.latches.now _ c.loop-latch.latch-index _ refl (omega arith) c.latch-item.is) c.loop-latch.invariant c.in_ok-add_latch.ensures
