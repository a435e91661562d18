use Rattle.part_functions.proofs.suits.is_rootless.Goals as goal

pub returns : goal.returns
returns c e = record { given = c.no_given.ensures c.if-not-no_given.false; holds = c.no_hold.ensures c.if-not-no_hold.false; pins = c.no_pin.ensures e }
