use Rattle.std.proofs.Common.{Option, subst, sym}
use Rattle.bdd_core.proofs.Frames.{filled_added}
use Rattle.bdd_core.proofs.Results.{if_ok_more}
use Rattle.circuit_faults.proofs.CountLaws.{span_within}
use Rattle.circuit_faults.proofs.ThreeSpans.{three_second}
use Rattle.circuit_faults.specs.Results.{output_span}
use Rattle.circuit_faults.specs.Steps.{in_phase}
use Rattle.circuit_faults.specs.Wholes.{SpendsWired}
use Rattle.circuit_faults.specs.Operations.{step_operations}
use Rattle.circuit_faults.specs.declared.net.CircuitFault.{CircuitFault}
use Rattle.circuit_faults.specs.declared.steps.CircuitStep.{CircuitStep}
use Rattle.circuit_faults.proofs.circuit.check_step.Goals as goal

pub returns-in-Instance-clause-writes : goal.returns-in-Instance-clause-writes
returns-in-Instance-clause-writes c =
    three_second (output_span c.args.phased.circuit.now c.args.spans.roots) c.args.spans.gates c.args.spans.out c.args.store.now c.check_instance_step.new.store c.check_instance_step.ensures.writes

pub returns-in-Instance-clause-roots : goal.returns-in-Instance-clause-roots
returns-in-Instance-clause-roots c =
    filled_added c.args.spans.roots c.args.store.now c.check_instance_step.new.store c.check_instance_step.ensures.adds c.requires.spans.roots_live

pub returns-in-Instance-clause-few : goal.returns-in-Instance-clause-few
returns-in-Instance-clause-few c one u care gates_in roots_in =
    let few = c.check_instance_step.ensures.few one u care gates_in roots_in in
    let w = in_phase c.args.phased in
    subst (λ (s : CircuitStep). SpendsWired {A = Option CircuitFault} u (step_operations w s) c.args.spans.gates c.args.spans.roots c.args.store.now c.check_instance_step.new.store c.check_instance_step.result)
    (sym c.in-Instance.is) (record {
      counts = few.counts;
      within = if_ok_more _ _ c.check_instance_step.result
          (λ _ reads. (reads, span_within u c.args.spans.roots c.args.store.now c.check_instance_step.new.store c.check_instance_step.ensures.adds c.requires.spans.roots_live roots_in)) few.within;
    })
