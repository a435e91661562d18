use Rattle.std.proofs.Common.{arith}
use Rattle.graphs.proofs.GroupLaws.{arc_within}
use Rattle.graphs.proofs.marks.mark_stays.Goals as goal

pub returns : goal.returns
returns c from to arc =
    let inside = arc_within c.args.sources.now from to arc in
    let end = c.loop-to-test.false in
    c.loop-to.invariant to (omega (arith, inside, end)) from arc
