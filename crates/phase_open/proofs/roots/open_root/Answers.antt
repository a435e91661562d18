use Rattle.bdd_ops.proofs.CountingLaws.{counts_err}
use Rattle.phase_open.proofs.RootLaws.{counts_written}
use Rattle.phase_open.proofs.roots.open_root.Goals as goal

pub returns-in-Err-clause-counts : goal.returns-in-Err-clause-counts
returns-in-Err-clause-counts c u below = counts_err u 1 c.args.store.now c.root_of.new.store c.in-Err.spent (c.in-Err.ensures.counts u below)

pub returns-clause-counts : goal.returns-clause-counts
returns-clause-counts c u below =
    counts_written u 1 c.args.store.now c.root_of.new.store c.write.new.self c.in-Ok.root tt _ c.write.ensures (c.in-Ok.ensures.counts u below)
