use Rattle.std.proofs.Common.{arith}
use Rattle.nesting.proofs.ReachedLaws.{met_turn}
use Rattle.port_links.proofs.reaching.meet_all.Goals as goal

pub loop-number-preserved : goal.loop-number-preserved
loop-number-preserved c =
    met_turn c.args.marks.now.items c.loop-number.marks.items c.meet.new.marks.items c.args.met.now c.loop-number.met c.meet.new.met c.args.numbers.now c.loop-number.number-index
    (omega arith) c.loop-number.invariant c.in_ok-meet.ensures
