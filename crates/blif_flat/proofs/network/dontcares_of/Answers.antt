use Rattle.std.proofs.Common.{arith, refl}
use Rattle.std.proofs.lemmas.Option.{slice_get_read}
use Rattle.blif_flat.specs.Network.{dontcare_behind}
use Rattle.blif_flat.specs.Places.{number_in}
use Rattle.blif_flat.proofs.NetworkMade.{kept_more}
use Rattle.blif_flat.proofs.network.dontcares_of.Goals as goal

pub loop-output-preserved : goal.loop-output-preserved
loop-output-preserved c =
    kept_more (dontcare_behind (number_in c.args.place.now) c.args.names.now c.args.count) c.args.outputs.now c.loop-output.output-index c.output-item.result c.loop-output.list c.add_dontcare.new.list
    (slice_get_read c.args.outputs.now _ c.loop-output.output-index _ refl (omega arith) c.output-item.is) c.loop-output.invariant c.in_ok-add_dontcare.ensures
