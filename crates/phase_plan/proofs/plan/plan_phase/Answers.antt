use Rattle.phase_plan.proofs.PlanLaws.{ready_wired}
use Rattle.phase_terms.specs.Ready.{comparison_in}
use Rattle.phase_plan.proofs.plan.plan_phase.Goals as goal

pub bare_parts-requires-clause-wired : goal.bare_parts-requires-clause-wired
bare_parts-requires-clause-wired c = ready_wired (comparison_in c.args.compared) c.args.phase c.requires.ready c.requires.phase
