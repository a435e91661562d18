use Rattle.std.proofs.Common.{arith, refl}
use Rattle.std.proofs.lemmas.Option.{slice_get_read}
use Rattle.blif_checks.specs.Mentions.{cover_mentions, numbered}
use Rattle.blif_checks.proofs.MentionLaws.{more}
use Rattle.blif_checks.proofs.mentions.add_covers.Goals as goal

pub loop-cover-preserved : goal.loop-cover-preserved
loop-cover-preserved c =
    more (numbered c.args.names.now) cover_mentions c.args.covers.now c.loop-cover.cover-index c.cover-item.result c.args.list.now c.loop-cover.list c.add_cover.new.list (omega arith)
    (slice_get_read c.args.covers.now _ c.loop-cover.cover-index _ refl (omega arith) c.cover-item.is) c.loop-cover.invariant c.in_ok-add_cover.ensures
