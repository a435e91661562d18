use Rattle.std.proofs.Common.{arith, ◌∙◌}
use Rattle.domino_order.proofs.MadeLaws.{variable_next}
use Rattle.domino_order.proofs.made.variable_of.Goals as goal

pub loop-n-preserved : goal.loop-n-preserved
loop-n-preserved c =
    let net = c.requires in
    let test = c.loop-n-test.true in
    c.in_ok-before.ensures
    ∙ variable_next c.args.circuit.now c.as_slice-nets.result.now c.loop-n.n c.loop-n.before c.from.result _ c.is_input.result c.as_slice-nets.ensures (omega (arith, net, test)) c.is_input.ensures
    c.from.ensures c.loop-n.invariant
