use Rattle.net_places.proofs.GlobalLaws.{cards_by}
use Rattle.net_places.proofs.globals.mark_cards.Goals as goal

pub returns : goal.returns
returns c =
    cards_by c.args.nets.now c.as_slice.result.now c.as_slice-2.result.now c.args.marks.now.items c.mark_devices.new.marks.items c.mark_instances.new.marks.items c.as_slice.ensures c.as_slice-2.ensures
    c.mark_devices.ensures c.mark_instances.ensures
