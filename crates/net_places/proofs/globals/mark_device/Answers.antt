use Rattle.net_places.proofs.GlobalLaws.{three}
use Rattle.net_places.proofs.globals.mark_device.Goals as goal

pub returns : goal.returns
returns c =
    three c.args.device.drain c.args.device.gate c.args.device.source c.args.marks.now.items c.mark.new.marks.items c.mark-2.new.marks.items c.mark-3.new.marks.items c.mark.ensures.len c.mark.ensures.marked c.mark-2.ensures.len c.mark-2.ensures.marked c.mark-3.ensures.len c.mark-3.ensures.marked
