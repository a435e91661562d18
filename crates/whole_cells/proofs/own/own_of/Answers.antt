use Rattle.flatten.proofs.HoldNames.{names_there}
use Rattle.whole_cells.proofs.own.own_of.Goals as goal

pub unrolled_circuit-requires-clause-names : goal.unrolled_circuit-requires-clause-names
unrolled_circuit-requires-clause-names c = names_there c.args.design.now c.args.rules.now c.requires.files.ordered.names
