use Rattle.path_fixpoint.proofs.RangeLaws.{part_from, part_passes}
use Rattle.path_fixpoint.proofs.ranges.is_part.Goals as goal

pub has_devices-requires : goal.has_devices-requires
has_devices-requires c = c.rises.ensures.0 c.if-not-rises.false

pub returns : goal.returns
returns c =
    let circuit = c.args.circuit.now in
    let part = c.args.part.now in
    let rise = c.rises.ensures.0 c.if-not-rises.false in (
      λ t. (part_from circuit part rise (c.has_nets.ensures.0 c.if-not-has_nets.false) (c.has_devices.ensures.0 t), rise),
      λ p. c.has_devices.ensures.1 (part_passes circuit part p.0),
    )
