use Rattle.std.proofs.Common.{Option, subst, sym}
use Rattle.bdd_core.specs.Store.{function_of}
use Rattle.bdd_ops.proofs.CountingLaws.{counts_err, counts_value}
use Rattle.circuit_faults.proofs.KeptNets.{first_gives, means_later}
use Rattle.circuit_faults.specs.KeptScans.{KeptNetGives}
use Rattle.circuit_faults.specs.declared.kept_net.KeptFault.{KeptFault}
use Rattle.circuit_faults.proofs.kept_net.kept_net_fault.Goals as goal

pub returns-in-Err-clause-adds : goal.returns-in-Err-clause-adds
returns-in-Err-clause-adds c = c.in-Err.ensures.gives.adds

pub returns-in-Err-clause-counts : goal.returns-in-Err-clause-counts
returns-in-Err-clause-counts c u care wanted zero one = counts_err u 20 c.args.store.now c.kept_faults.new.store c.in-Err.spent (c.in-Err.ensures.counts u care wanted zero one)

pub returns-clause-adds : goal.returns-clause-adds
returns-clause-adds c = c.in-Ok.ensures.gives.adds

pub returns-clause-gives : goal.returns-clause-gives
returns-clause-gives c =
    let old = c.args.store.now in
    let new = c.kept_faults.new.store in
    let gives = c.in-Ok.ensures.gives in
    subst (λ (found : Option KeptFault). KeptNetGives (function_of old c.args.care) (function_of old c.args.wanted) (function_of old c.args.zero) (function_of old c.args.one) c.args.seen c.args.net new found)
    (sym c.first_kept.ensures)
    (first_gives (function_of old c.args.care) (function_of old c.args.wanted) (function_of old c.args.zero) (function_of old c.args.one) c.args.seen c.args.net new c.in-Ok.faults.fight c.in-Ok.faults.unsettled c.args.one
    gives.ok.0 gives.ok.1 (means_later old new c.args.one gives.adds c.requires.3) c.where_seen-unsettled.result c.where_seen-unsettled.ensures)

pub returns-clause-counts : goal.returns-clause-counts
returns-clause-counts c u care wanted zero one =
    counts_value u 20 c.args.store.now c.kept_faults.new.store c.in-Ok.faults _ (c.in-Ok.ensures.counts u care wanted zero one)
