use Rattle.std.proofs.Common.{arith, refl}
use Rattle.std.proofs.lemmas.Option.{slice_get_read}
use Rattle.blif_checks.specs.Drivers.{latch_uses}
use Rattle.blif_checks.specs.Mentions.{numbered}
use Rattle.blif_checks.proofs.MentionLaws.{more}
use Rattle.blif_checks.proofs.uses.add_latches.Goals as goal

pub loop-latch-preserved : goal.loop-latch-preserved
loop-latch-preserved c =
    more (numbered c.args.names.now) latch_uses c.args.latches.now c.loop-latch.latch-index c.latch-item.result c.args.list.now c.loop-latch.list c.add_latch.new.list (omega arith)
    (slice_get_read c.args.latches.now _ c.loop-latch.latch-index _ refl (omega arith) c.latch-item.is) c.loop-latch.invariant c.in_ok-add_latch.ensures
