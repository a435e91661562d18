use Rattle.bdd_core.specs.Store.{function_of}
use Rattle.bdd_ops.proofs.CountingLaws.{counts_err}
use Rattle.circuit_faults.proofs.NetLaws.{nowhere}
use Rattle.setting_faults.specs.Differences.{difference_of}
use Rattle.setting_faults.proofs.differences.net_difference.Goals as goal

pub returns-in-Err-clause-counts : goal.returns-in-Err-clause-counts
returns-in-Err-clause-counts c u care left right = counts_err u 3 c.args.store.now c.difference.new.store c.in-Err.spent (c.in-Err.ensures.counts u care left right)

pub returns-then-at-eq0-clause-gives : goal.returns-then-at-eq0-clause-gives
returns-then-at-eq0-clause-gives c seen v =
    let old = c.args.store.now in
    nowhere c.difference.new.store c.in-Ok.at (difference_of (function_of old c.args.care) (function_of old c.args.left) (function_of old c.args.right)) c.in-Ok.ensures.gives.ok c.if-at-eq0.true v
