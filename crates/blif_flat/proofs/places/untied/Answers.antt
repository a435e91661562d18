use Rattle.std.proofs.Common.{arith, refl, not}
use Rattle.std.proofs.lemmas.Option.{slice_get_read}
use Rattle.vrt_model.specs.Lists.{has_name}
use Rattle.blif_flat.proofs.PlaceLaws.{named_more}
use Rattle.blif_flat.proofs.places.untied.Goals as goal

pub loop-signal-preserved : goal.loop-signal-preserved
loop-signal-preserved c =
    named_more (λ name. not (has_name c.args.tied.now name)) c.args.signals.now c.loop-signal.signal-index c.signal-item.result c.loop-signal.names c.add_untied.new.names (omega arith)
    (slice_get_read c.args.signals.now _ c.loop-signal.signal-index _ refl (omega arith) c.signal-item.is) c.loop-signal.invariant c.in_ok-add_untied.ensures
