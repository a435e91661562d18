use Rattle.std.proofs.Common.{◌&&◌, ◌∙◌, ap₂, not}
use Rattle.blif_checks.proofs.DriverLaws.{driving_is, reading_is}
use Rattle.blif_checks.proofs.roles.is_driving.Goals as goal

pub returns : goal.returns
returns c =
    c.is_first_alone.ensures
    ∙ ap₂ (λ a b. a && not b)
    c.knows-known.ensures
    (c.reads-read.ensures
    ∙ reading_is c.args.blif.now c.args.tables.now c.args.clocks.now c.args.sub.now c.args.tie.now c.as_bytes.result.now c.as_bytes-formal.result.now c.number_of-number.result c.requires.tables c.requires.clocks c.as_bytes.ensures
    c.as_bytes-formal.ensures c.number_of-number.ensures)
    ∙ driving_is c.args.blif.now c.args.tables.now c.args.sub.now c.args.tie.now c.as_bytes.result.now c.as_bytes-formal.result.now c.number_of-number.result c.requires.tables c.as_bytes.ensures c.as_bytes-formal.ensures c.number_of-number.ensures
