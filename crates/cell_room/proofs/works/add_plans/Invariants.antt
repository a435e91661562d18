use Rattle.cell_room.specs.Works.{ArePlans}
use Rattle.phase_terms.specs.Ready.{comparison_in}
use Rattle.cell_room.proofs.works.add_plans.Given as goal

-- the phases so far have plans
abbrev pub invariant-loop-phase : goal.invariant-loop-phase
invariant-loop-phase l = ArePlans (comparison_in l.fn.compared) l.phase l.plans
