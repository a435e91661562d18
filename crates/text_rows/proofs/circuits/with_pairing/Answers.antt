-- Where the cells have an order, each name in the rules is there.
use Rattle.flatten.proofs.HoldNames.{names_there}
use Rattle.text_rows.proofs.circuits.with_pairing.Goals as goal

pub flat-requires-clause-names : goal.flat-requires-clause-names
flat-requires-clause-names c = names_there c.args.design.now c.args.rules.now c.in-Ok.ensures.0.names
