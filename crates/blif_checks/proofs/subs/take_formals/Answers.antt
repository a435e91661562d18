use Rattle.std.proofs.Common.{arith, refl}
use Rattle.std.proofs.lemmas.Option.{slice_get_read}
use Rattle.vrt_model.specs.Models.{interface_of}
use Rattle.blif_checks.proofs.SubLaws.{formals_step}
use Rattle.blif_checks.proofs.subs.take_formals.Goals as goal

pub loop-tie-preserved : goal.loop-tie-preserved
loop-tie-preserved c =
    formals_step c.args.line (interface_of c.args.model.now) c.loop-tie.seen c.take_formal.new.seen c.args.ties.now c.loop-tie.tie-index c.tie-item.result _ (omega arith)
    (slice_get_read c.args.ties.now _ c.loop-tie.tie-index _ refl (omega arith) c.tie-item.is) c.as_bytes.ensures c.loop-tie.invariant c.in_ok-take_formal.ensures.fault c.in_ok-take_formal.ensures.seen
