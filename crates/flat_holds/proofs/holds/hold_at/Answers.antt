use Rattle.flat_holds.proofs.EndLaws.{hold_is}
use Rattle.flat_holds.proofs.holds.hold_at.Goals as goal

pub returns : goal.returns
returns c =
    hold_is c.args.design.now c.args.rules.now c.args.unrolled.now c.requires.netlist c.args.place c.args.rule.now c.args.net.0 c.element_of-element.result c.in_ok-enters.enters c.in_ok-end.end
    c.is_inverted.result c.element_of-element.ensures c.in_ok-enters.ensures c.in_ok-end.ensures c.is_inverted.ensures
