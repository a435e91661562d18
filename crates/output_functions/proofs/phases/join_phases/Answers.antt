use Rattle.std.proofs.Common.{ℕ, ◌+◌, Err, arith, length, subst}
use Rattle.output_functions.proofs.PhaseLaws.{refused_all}
use Rattle.output_functions.specs.Phases.{PhasesGive}
use Rattle.phase_terms.specs.Ready.{comparison_in}
use Rattle.output_functions.proofs.phases.join_phases.Goals as goal

pub returns-in-Err : goal.returns-in-Err
returns-in-Err c =
    let phases = c.args.phases in
    let k = comparison_in phases.compared in
    let d = c.join_next.new.store in
    let handles = c.join_next.new.functions.items in
    record {
      gives = refused_all k phases.plans.now (c.loop-phase.phase + 1) (length k.rules.phases) c.args.store.now.budget phases.words d handles c.in-Err.stop
          (omega (arith, c.loop-phase-test.true, c.requires.few))
          (subst (λ (budget : ℕ). PhasesGive k phases.plans.now (c.loop-phase.phase + 1) budget phases.words d handles (Err c.in-Err.stop)) c.loop-phase.invariant.0 c.in-Err.ensures.gives);
    }
