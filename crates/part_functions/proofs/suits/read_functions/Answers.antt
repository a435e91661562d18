use Rattle.part_functions.proofs.OrderLaws.{reordered_reads}
use Rattle.part_functions.proofs.suits.read_functions.Goals as goal

pub ordered-requires : goal.ordered-requires
ordered-requires c = c.in-Some.ensures.list

pub returns : goal.returns
returns c =
    reordered_reads c.in-Some.functions c.ordered.result c.args.circuit.now c.args.part.now c.args.gates c.args.roots c.args.store.now c.ordered.ensures c.in-Some.ensures
