use Rattle.std.proofs.Common.{◌∙◌}
use Rattle.blif_checks.proofs.DriverLaws.{reading_is}
use Rattle.blif_checks.proofs.roles.is_reading.Goals as goal

pub returns : goal.returns
returns c =
    c.reads.ensures
    ∙ reading_is c.args.blif.now c.args.tables.now c.args.clocks.now c.args.sub.now c.args.tie.now c.as_bytes.result.now c.as_bytes-2.result.now c.number_of-number.result c.requires.tables c.requires.clocks c.as_bytes.ensures
    c.as_bytes-2.ensures c.number_of-number.ensures
