use Rattle.std.proofs.Common.{sym}
use Rattle.flat_holds.proofs.EndLaws.{first_line}
use Rattle.flat_holds.proofs.elements.element_of.Goals as goal

pub returns-in-Some : goal.returns-in-Some
returns-in-Some c =
    first_line c.args.design.now c.args.rules.now c.args.unrolled.now c.args.place c.args.hold.now c.in-Some.line.now c.as_bytes.result.now c.led_up.result.place
    c.led_up.result.name.now c.led_up.result.inverted (sym c.in-Some.ensures) c.as_bytes.ensures c.led_up.ensures
