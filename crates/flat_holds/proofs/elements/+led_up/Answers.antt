use Rattle.std.proofs.Common.{sym, arith}
use Rattle.flat_holds.proofs.EndLaws.{lead_last, lead_on, lead_top}
use Rattle.flat_holds.proofs.elements.+led_up.Goals as goal

pub returns-then-here-place : goal.returns-then-here-place
returns-then-here-place t c =
    lead_top c.args.design.now c.args.rules.now c.args.unrolled.now c.args.place c.in-Some.here.now c.args.name.now c.args.inverted (sym c.in-Some.ensures) (omega (arith, c.if-here-place.true))

pub returns-in-Some-line_above : goal.returns-in-Some-line_above
returns-in-Some-line_above t c =
    lead_on c.args.design.now c.args.rules.now c.args.unrolled.now c.args.place c.in-Some.here.now c.args.name.now c.args.inverted c.in-Some-line_above.line.now
    c.as_bytes.result.now c.differ.result c.led_up.result.place c.led_up.result.name.now c.led_up.result.inverted (sym c.in-Some.ensures) (omega (arith, c.if-here-place.false))
    (sym c.in-Some-line_above.ensures) c.as_bytes.ensures c.differ.ensures c.led_up.ensures

pub returns-in-None : goal.returns-in-None
returns-in-None t c =
    lead_last c.args.design.now c.args.rules.now c.args.unrolled.now c.args.place c.in-Some.here.now c.args.name.now c.args.inverted
    (sym c.in-Some.ensures) (omega (arith, c.if-here-place.false)) (sym c.in-None.ensures)
