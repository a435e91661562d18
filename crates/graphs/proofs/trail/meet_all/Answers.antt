use Rattle.std.proofs.Common.{arith}
use Rattle.graphs.proofs.TrailLaws.{met_turn}
use Rattle.graphs.proofs.trail.meet_all.Goals as goal

pub loop-number-preserved : goal.loop-number-preserved
loop-number-preserved c =
    met_turn c.args.places.now.items c.loop-number.places.items c.meet.new.places.items c.args.met.now c.loop-number.met c.meet.new.met c.args.numbers.now c.loop-number.number-index c.args.next
    (omega arith) c.loop-number.invariant c.in_ok-meet.ensures
