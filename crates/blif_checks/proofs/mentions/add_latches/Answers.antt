use Rattle.std.proofs.Common.{arith, refl}
use Rattle.std.proofs.lemmas.Option.{slice_get_read}
use Rattle.blif_checks.specs.Mentions.{latch_mentions, numbered}
use Rattle.blif_checks.proofs.MentionLaws.{more}
use Rattle.blif_checks.proofs.mentions.add_latches.Goals as goal

pub loop-latch-preserved : goal.loop-latch-preserved
loop-latch-preserved c =
    more (numbered c.args.names.now) latch_mentions c.args.latches.now c.loop-latch.latch-index c.latch-item.result c.args.list.now c.loop-latch.list c.add_latch.new.list (omega arith)
    (slice_get_read c.args.latches.now _ c.loop-latch.latch-index _ refl (omega arith) c.latch-item.is) c.loop-latch.invariant c.in_ok-add_latch.ensures
