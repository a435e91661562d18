use Rattle.std.proofs.Common.{refl}
use Rattle.blif_flat.proofs.CountLaws.{sums_next}
use Rattle.blif_flat.proofs.counts.sums_of.Goals as goal

pub loop-round-preserved : goal.loop-round-preserved
loop-round-preserved c = sums_next c.args.all.now c.args.all.now c.args.kind c.loop-round.round c.loop-round.sums c.as_slice.result.now _ refl c.as_slice.ensures c.loop-round.invariant c.in_ok-sums.ensures
