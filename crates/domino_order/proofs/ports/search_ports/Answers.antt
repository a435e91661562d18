use Rattle.std.proofs.Common.{arith}
use Rattle.domino_order.proofs.PortLaws.{all_ports}
use Rattle.domino_order.proofs.ports.search_ports.Goals as goal

pub returns : goal.returns
returns c =
    let nets = c.args.asked.rising.nets.now in
    let ends = c.loop-i.auto.i-end in
    let over = c.loop-i-test.false in record { gives = all_ports c.args.asked c.loop-i.i (omega (arith, ends, over)) c.loop-i.invariant.holds }
