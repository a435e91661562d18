use Rattle.std.proofs.Common.{refl}
use Rattle.phase_plan.proofs.PlanLaws.{planned, ready_wired}
use Rattle.phase_terms.specs.Ready.{comparison_in}
use Rattle.phase_terms.specs.declared.plan.PhasePlan.{PhasePlan}
use Rattle.vrt_model.specs.Comparison.{phase_at}
use Rattle.phase_plan.proofs.plan.plan_with.Goals as goal

pub circuit_steps-requires-clause-circuit : goal.circuit_steps-requires-clause-circuit
circuit_steps-requires-clause-circuit c = (c.requires.ready.wholes c.args.phase c.requires.phase).ranges

pub parts_with_keepers-requires-clause-wired : goal.parts_with_keepers-requires-clause-wired
parts_with_keepers-requires-clause-wired c = ready_wired (comparison_in c.args.compared) c.args.phase c.requires.ready c.requires.phase

pub returns : goal.returns
returns c =
    let k = comparison_in c.args.compared in
    let steps = c.in_ok-steps.ensures in
    let plan : PhasePlan =
    record { parts = c.args.parts; kept = c.in_ok-kept.kept; steps = c.in_ok-steps.steps; model = c.args.model; observed = c.in_ok-observed.observed; wishes = c.in_ok-wishes.wishes } in
    planned k c.args.phase plan c.requires.parts (c.in_ok-kept.ensures (phase_at k.rules c.args.phase) c.requires.parts.1.known)
    (record { order = λ rank. steps.steps k rank refl refl refl; there = steps.there; work = steps.work k refl refl refl })
    c.requires.model c.in_ok-observed.ensures.len
    (c.in_ok-observed.ensures.is k (record { design_is = refl; rules_are = refl; cell_is = refl; pairing_is = refl }) refl) c.in_ok-wishes.ensures
