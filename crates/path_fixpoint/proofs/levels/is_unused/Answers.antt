use Rattle.std.proofs.Common.{arith}
use Rattle.path_fixpoint.proofs.levels.is_unused.Goals as goal

pub returns : goal.returns
returns c e = (omega (arith, c.if-level-source_level.false, c.source_level.ensures), c.no_device_has.ensures c.if-not-no_device_has.false, c.no_hold_has.ensures c.if-not-no_hold_has.false, c.no_pin_has.ensures e)
