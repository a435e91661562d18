use Rattle.std.proofs.Common.{arith}
use Rattle.nesting.proofs.DepthLaws.{first_depths, next_depths, small}
use Rattle.nesting.proofs.depths.depths_of.Goals as goal

pub loop-round-init : goal.loop-round-init
loop-round-init c = first_depths c.args.inner.now _ c.in_ok-depths.ensures

pub next_round-requires : goal.next_round-requires
next_round-requires c = small c.args.inner.now c.loop-round.round c.loop-round.depths c.as_slice.result.now (omega arith) c.as_slice.ensures c.loop-round.invariant

pub loop-round-preserved : goal.loop-round-preserved
loop-round-preserved c =
    next_depths c.args.inner.now c.loop-round.round c.loop-round.depths c.as_slice.result.now _ c.requires.inside c.loop-round.invariant c.as_slice.ensures c.in_ok-depths-2.ensures
