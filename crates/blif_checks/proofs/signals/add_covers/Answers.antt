use Rattle.std.proofs.Common.{arith, refl}
use Rattle.std.proofs.lemmas.Option.{slice_get_read}
use Rattle.vrt_model.specs.FlatBlif.{cover_signals}
use Rattle.blif_checks.proofs.MentionLaws.{names_more}
use Rattle.blif_checks.proofs.signals.add_covers.Goals as goal

pub loop-cover-preserved : goal.loop-cover-preserved
loop-cover-preserved c =
    names_more cover_signals c.args.covers.now c.loop-cover.cover-index c.cover-item.result c.args.names.now c.loop-cover.names c.add_cover.new.names (omega arith)
    (slice_get_read c.args.covers.now _ c.loop-cover.cover-index _ refl (omega arith) c.cover-item.is) c.loop-cover.invariant c.in_ok-add_cover.ensures
