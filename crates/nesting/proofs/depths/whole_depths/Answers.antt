use Rattle.std.proofs.Common.{arith}
use Rattle.nesting.proofs.DepthLaws.{first_depths, next_depths, settled, small}
use Rattle.nesting.proofs.depths.whole_depths.Goals as goal

pub loop-round-init : goal.loop-round-init
loop-round-init c = first_depths c.args.inner.now _ c.in_ok-depths.ensures

pub next_round-requires : goal.next_round-requires
next_round-requires c = small c.args.inner.now c.loop-round.round c.loop-round.depths c.as_slice.result.now (omega arith) c.as_slice.ensures c.loop-round.invariant

pub returns-then-are_same : goal.returns-then-are_same
returns-then-are_same c =
    settled c.args.inner.now c.loop-round.round c.loop-round.depths c.in_ok-next.next c.as_slice-in-loop-round.result.now c.as_slice-in-loop-round-2.result.now c.requires.inside c.loop-round.invariant
    (next_depths c.args.inner.now c.loop-round.round c.loop-round.depths c.as_slice.result.now c.in_ok-next.next c.requires.inside c.loop-round.invariant c.as_slice.ensures c.in_ok-next.ensures)
    c.as_slice-in-loop-round.ensures c.as_slice-in-loop-round-2.ensures (c.are_same.ensures c.if-are_same.true) (omega arith)

pub loop-round-preserved : goal.loop-round-preserved
loop-round-preserved c =
    next_depths c.args.inner.now c.loop-round.round c.loop-round.depths c.as_slice.result.now c.in_ok-next.next c.requires.inside c.loop-round.invariant c.as_slice.ensures c.in_ok-next.ensures
