use Rattle.std.proofs.Common.{arith, subst, sym}
use Rattle.substitute.proofs.RangeLaws.{ends_here, ends_last, first_behind, one_further}
use Rattle.substitute.specs.Ranges.{IsEnd}
use Rattle.substitute.proofs.range.end_of.Goals as goal

pub loop-end-init : goal.loop-end-init
loop-end-init c t i design unrolled e = first_behind t design c.args.unrolled.now unrolled i c.args.at e c.requires

pub loop-end-preserved : goal.loop-end-preserved
loop-end-preserved c t i design unrolled e =
    let from = c.loop-end.auto.end in
    one_further t design c.args.unrolled.now unrolled i c.args.at e c.loop-end.end c.place_at.result.now c.place_at.ensures (omega (arith, from)) c.if-place_at-at.false
    (c.loop-end.invariant t i design unrolled e)

pub returns-then-place_at-at : goal.returns-then-place_at-at
returns-then-place_at-at c t i design unrolled e =
    let from = c.loop-end.auto.end in
    ends_here t design c.args.unrolled.now unrolled i c.args.at e c.loop-end.end c.place_at.result.now c.place_at.ensures (omega (arith, from)) c.if-place_at-at.true
    (c.loop-end.invariant t i design unrolled e)

pub returns : goal.returns
returns c t i design unrolled e =
    let end = c.loop-end-test.false in
    let count = c.len-count.ensures in
    subst (IsEnd t i) (sym count) (ends_last t design c.args.unrolled.now unrolled i c.args.at e c.loop-end.end (omega (arith, end, count)) (c.loop-end.invariant t i design unrolled e))
