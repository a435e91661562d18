use Rattle.phase_wishes.proofs.HeldLaws.{entered_added}
use Rattle.phase_wishes.proofs.holds.add_entered.Goals as goal

pub returns : goal.returns
returns c =
    entered_added c.args.circuit.now c.requires c.args.wishes.now c.add_wishes.new.wishes c.in_ok-table.table.items c.put_enters.new.table.items c.as_slice.result.now c.len.result c.len.ensures
    c.in_ok-table.ensures c.as_slice.ensures.value c.args.rules.now c.args.phase c.in_ok-after.after c.in_ok-after.ensures c.in_ok-put_enters.ensures c.in_ok-add_wishes.ensures
