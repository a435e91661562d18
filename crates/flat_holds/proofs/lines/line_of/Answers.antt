use Rattle.std.proofs.Common.{◌∙◌}
use Rattle.flat_holds.proofs.LineLaws.{line_placed}
use Rattle.flat_holds.proofs.lines.line_of.Goals as goal

pub returns : goal.returns
returns c =
    c.line_among.ensures
    ∙ line_placed c.args.rules.now c.args.lines.now c.requires c.args.cell.now c.args.instance.now c.args.element.now c.as_slice.result.now c.places-places.result.now c.as_slice.ensures
    c.places-places.ensures
