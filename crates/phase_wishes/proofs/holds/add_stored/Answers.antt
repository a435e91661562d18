use Rattle.phase_wishes.proofs.HeldLaws.{stored_added}
use Rattle.phase_wishes.proofs.holds.add_stored.Goals as goal

pub returns : goal.returns
returns c =
    stored_added c.args.circuit.now c.requires.circuit c.args.wishes.now c.add_wishes.new.wishes c.in_ok-table.table.items c.put_groups.new.table.items c.as_slice-2.result.now c.len.result c.len.ensures
    c.in_ok-table.ensures c.as_slice-2.ensures.value c.args.stored c.kind_of.result c.args.groups.now c.as_slice.result.now c.requires.groups c.as_slice.ensures c.kind_of.ensures c.put_groups.ensures
    c.in_ok-add_wishes.ensures
