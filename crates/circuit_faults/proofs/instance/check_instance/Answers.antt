use Rattle.std.proofs.Common.{refl}
use Rattle.bdd_core.specs.Store.{function_of}
use Rattle.bdd_ops.proofs.CountingLaws.{counts_err, counts_ok}
use Rattle.circuit_faults.proofs.NetLaws.{nowhere}
use Rattle.circuit_faults.specs.Operations.{instance_operations}
use Rattle.circuit_faults.specs.Results.{broken_of}
use Rattle.circuit_faults.specs.Steps.{in_phase}
use Rattle.constraints.specs.Obliged.{obliged_at}
use Rattle.circuit_faults.proofs.instance.check_instance.Goals as goal

pub returns-then-fault-ne0-clause-gives : goal.returns-then-fault-ne0-clause-gives
returns-then-fault-ne0-clause-gives c = (c.in-Ok.ensures.adds, (refl, refl, c.in-Ok.ensures.is, c.if-fault-ne0.true))

pub returns-clause-gives : goal.returns-clause-gives
returns-clause-gives c =
    let held = obliged_at c.args.store.now c.args.phased.design.now c.args.phased.rules.now c.args.instance.now c.args.phased.phase c.args.gates in
    (c.in-Ok.ensures.adds, nowhere c.broken.new.store c.in-Ok.fault (broken_of (function_of c.args.store.now c.args.care) held) c.in-Ok.ensures.is c.if-fault-ne0.false)

pub returns-in-Err-clause-counts : goal.returns-in-Err-clause-counts
returns-in-Err-clause-counts c u care gates =
    counts_err u (instance_operations (in_phase c.args.phased) c.args.instance.now) c.args.store.now c.broken.new.store c.in-Err.spent (c.in-Err.ensures.counts u care gates)

pub returns-then-fault-ne0-clause-counts : goal.returns-then-fault-ne0-clause-counts
returns-then-fault-ne0-clause-counts c u care gates =
    counts_ok u (instance_operations (in_phase c.args.phased) c.args.instance.now) c.args.store.now c.broken.new.store _ (c.in-Ok.ensures.counts u care gates).added

pub returns-clause-counts : goal.returns-clause-counts
returns-clause-counts c u care gates =
    counts_ok u (instance_operations (in_phase c.args.phased) c.args.instance.now) c.args.store.now c.broken.new.store _ (c.in-Ok.ensures.counts u care gates).added
