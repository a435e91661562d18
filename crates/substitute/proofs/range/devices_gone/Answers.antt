use Rattle.std.proofs.Common.{◌∙◌}
use Rattle.whole_circuits.proofs.FlatLaws.{flat_parts}
use Rattle.substitute.proofs.RangeLaws.{part_is}
use Rattle.substitute.proofs.range.devices_gone.Goals as goal

pub returns : goal.returns
returns c t blif facts i e are =
    part_is t i c.end_of-end.result c.args.at c.devices_before-from.result c.devices_before-to.result c.as_slice.result.now c.part.result.now e
    (c.end_of-end.ensures t i are.ground.netlist.design are.entered.unrolled_is e) (c.devices_before-from.ensures t are.owners_are) (c.devices_before-to.ensures t are.owners_are)
    (c.as_slice.ensures ∙ (flat_parts t c.args.tables.flat.now are.flat_is).devices) c.part.ensures
