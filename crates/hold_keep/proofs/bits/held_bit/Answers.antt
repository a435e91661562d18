use Rattle.bdd_core.specs.Store.{function_of}
use Rattle.bdd_ops.proofs.CountingLaws.{counts_made}
use Rattle.bdd_ops.proofs.WithinLaws.{within_not}
use Rattle.bdd_ops.specs.Ops.{not_of}
use Rattle.hold_keep.proofs.bits.held_bit.Goals as goal

pub returns-then-inverted-clause-counts : goal.returns-then-inverted-clause-counts
returns-then-inverted-clause-counts c u reads =
    counts_made u c.args.store.now c.not.new.store c.sound.ensures.sound.ends (not_of (function_of c.args.store.now c.args.bit)) c.not.result c.not.ensures.makes
    (within_not u (function_of c.args.store.now c.args.bit) reads)
