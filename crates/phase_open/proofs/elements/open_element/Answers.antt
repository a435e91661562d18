use Rattle.bdd_core.specs.Diagram.{bit_of}
use Rattle.bdd_ops.proofs.CountingLaws.{counts_err, counts_made}
use Rattle.bdd_ops.proofs.WithinLaws.{within_bit}
use Rattle.phase_open.proofs.RootLaws.{counts_written}
use Rattle.phase_open.proofs.elements.open_element.Goals as goal

pub returns-in-Err-clause-counts : goal.returns-in-Err-clause-counts
returns-in-Err-clause-counts c u below =
    counts_err u 1 c.args.store.now c.bit.new.self c.in-Err.spent
    (counts_made u c.args.store.now c.bit.new.self c.sound.ensures.sound.ends (bit_of c.args.variable) _ c.in-Err.ensures.makes (within_bit u c.args.variable below))

pub returns-clause-counts : goal.returns-clause-counts
returns-clause-counts c u below =
    counts_written u 1 c.args.store.now c.bit.new.self c.write.new.self c.in-Ok.bit tt _ c.write.ensures
    (counts_made u c.args.store.now c.bit.new.self c.sound.ensures.sound.ends (bit_of c.args.variable) _ c.in-Ok.ensures.makes (within_bit u c.args.variable below))
