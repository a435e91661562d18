use Rattle.std.proofs.Common.{Err}
use Rattle.bdd_core.specs.Store.{function_of}
use Rattle.bdd_ops.proofs.CountingLaws.{counts_err, counts_made}
use Rattle.bdd_ops.proofs.WithinLaws.{within_not}
use Rattle.bdd_ops.specs.Ops.{not_of}
use Rattle.phase_wishes.proofs.missed.turned.Goals as goal

pub returns-in-Err-clause-counts : goal.returns-in-Err-clause-counts
returns-in-Err-clause-counts c u reads =
    counts_err u 1 c.args.store.now c.not.new.store c.in-Err.spent
    (counts_made u c.args.store.now c.not.new.store c.sound.ensures.sound.ends (not_of (function_of c.args.store.now c.args.source)) (Err c.in-Err.spent) c.in-Err.ensures.makes
    (within_not u (function_of c.args.store.now c.args.source) reads))
