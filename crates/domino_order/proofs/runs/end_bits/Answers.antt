use Rattle.domino_order.proofs.FailLaws.{bound_end, least_end}
use Rattle.domino_order.proofs.runs.end_bits.Goals as goal

pub returns-then-least-clause-gives : goal.returns-then-least-clause-gives
returns-then-least-clause-gives c =
    least_end c.args.store.now c.least.new.store c.args.near c.args.words c.args.count c.args.bound.now c.read_bits.result c.requires.words.1 (c.least.ensures.least c.if-least.true) c.read_bits.ensures

pub returns-else-least-clause-gives : goal.returns-else-least-clause-gives
returns-else-least-clause-gives c =
    bound_end c.args.store.now c.args.near c.args.count c.args.bound.now c.least.result c.first_bits.result c.if-least.false c.least.ensures.zero c.first_bits.ensures
