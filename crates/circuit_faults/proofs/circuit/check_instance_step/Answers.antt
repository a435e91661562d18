use Rattle.std.proofs.Common.{ℕ, Option, ◌∙◌, sym, subst}
use Rattle.std.proofs.lemmas.Option.{same_Some}
use Rattle.bdd_core.proofs.Frames.{filled_added, two_first, writes_added}
use Rattle.bdd_core.proofs.Results.{if_ok_more}
use Rattle.bdd_ops.specs.Counting.{Counts}
use Rattle.circuit_faults.proofs.CountLaws.{span_within}
use Rattle.circuit_faults.proofs.StepLaws.{if_ok_all, instance_step_operations}
use Rattle.circuit_faults.specs.Results.{InstanceGives}
use Rattle.circuit_faults.specs.Steps.{IsReadyInstance, in_phase}
use Rattle.circuit_faults.specs.declared.net.CircuitFault.{CircuitFault}
use Rattle.vrt_model.proofs.Members.{all_among}
use Rattle.vrt_model.specs.declared.circuit.FlatInstance.{FlatInstance}
use Rattle.circuit_faults.proofs.circuit.check_instance_step.Goals as goal

pub check_instance-requires-clause-ready : goal.check_instance-requires-clause-ready
check_instance-requires-clause-ready c =
    all_among (IsReadyInstance (in_phase c.args.phased)) c.args.phased.circuit.now.instances c.instance_at-instance.result.now c.requires.instances (c.args.at, c.instance_at-instance.ensures)

pub check_instance-requires-clause-gates : goal.check_instance-requires-clause-gates
check_instance-requires-clause-gates c = (c.requires.spans.gates_span, c.requires.live, c.requires.spans.gates_len)

pub returns-clause-writes : goal.returns-clause-writes
returns-clause-writes c =
    two_first c.args.spans.gates c.args.spans.out c.args.store.now c.check_instance.new.store
    (writes_added c.args.spans.gates c.args.store.now c.check_instance.new.store c.requires.live c.check_instance.ensures.adds)

pub returns-clause-live : goal.returns-clause-live
returns-clause-live c = filled_added c.args.spans.gates c.args.store.now c.check_instance.new.store c.check_instance.ensures.adds c.requires.live

pub returns-clause-gives : goal.returns-clause-gives
returns-clause-gives c =
    if_ok_more _ _ c.check_instance.result
    (λ found g i there.
    subst (λ (x : FlatInstance). InstanceGives (in_phase c.args.phased) x c.args.at c.args.care c.args.spans.gates c.args.store.now c.check_instance.new.store found)
    (same_Some c.instance_at-instance.result.now i (sym c.instance_at-instance.ensures ∙ there)) g)
    c.check_instance.ensures.gives

pub returns-clause-few : goal.returns-clause-few
returns-clause-few c one u care gates roots = record {
  counts = subst (λ (n : ℕ). Counts {A = Option CircuitFault} u n c.args.store.now c.check_instance.new.store c.check_instance.result)
      (sym (instance_step_operations (in_phase c.args.phased) c.args.at c.instance_at-instance.result.now c.instance_at-instance.ensures))
      (c.check_instance.ensures.counts u care gates);
  within = if_ok_all _ c.check_instance.result (λ found. span_within u c.args.spans.gates c.args.store.now c.check_instance.new.store c.check_instance.ensures.adds c.requires.live gates);
}
