use Rattle.std.proofs.Common.{arith, refl}
use Rattle.std.proofs.lemmas.Option.{slice_get_read}
use Rattle.vrt_model.specs.Lists.{has_name}
use Rattle.blif_flat.proofs.PlaceLaws.{named_more}
use Rattle.blif_flat.proofs.network.those_among.Goals as goal

pub loop-name-preserved : goal.loop-name-preserved
loop-name-preserved c =
    named_more (has_name c.args.others.now) c.args.list.now c.loop-name.name-index c.name-item.result c.loop-name.names c.add_among.new.names (omega arith)
    (slice_get_read c.args.list.now _ c.loop-name.name-index _ refl (omega arith) c.name-item.is) c.loop-name.invariant c.in_ok-add_among.ensures
