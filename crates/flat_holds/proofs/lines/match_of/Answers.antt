use Rattle.std.proofs.Common.{◌∙◌}
use Rattle.flat_holds.proofs.LineLaws.{match_placed}
use Rattle.flat_holds.proofs.lines.match_of.Goals as goal

pub returns : goal.returns
returns c =
    c.match_among.ensures
    ∙ match_placed c.args.rules.now c.args.lines.now c.requires c.args.hold.now c.as_slice.result.now c.as_bytes.result.now c.places-places.result.now c.as_slice.ensures c.as_bytes.ensures
    c.places-places.ensures
