use Rattle.phase_wishes.proofs.HeldLaws.{all_added, all_known}
use Rattle.phase_wishes.proofs.holds.add_all.Goals as goal

pub returns-clause-wishes : goal.returns-clause-wishes
returns-clause-wishes c =
    all_added c.args.circuit.now c.args.rules.now c.args.groups.now c.args.phase c.args.wishes.now c.add_stored.new.wishes c.add_stored-2.new.wishes c.add_entered.new.wishes c.requires.empty
    (c.in_ok-add_stored.ensures c.args.rules.now c.args.phase) (c.in_ok-add_stored-2.ensures c.args.rules.now c.args.phase) (c.in_ok-add_entered.ensures c.args.groups.now)

pub returns-clause-known : goal.returns-clause-known
returns-clause-known c =
    all_known c.args.circuit.now c.args.rules.now c.args.groups.now c.args.phase c.args.wishes.now c.add_stored.new.wishes c.add_stored-2.new.wishes c.add_entered.new.wishes c.requires.empty
    (c.in_ok-add_stored.ensures c.args.rules.now c.args.phase) (c.in_ok-add_stored-2.ensures c.args.rules.now c.args.phase) (c.in_ok-add_entered.ensures c.args.groups.now)
