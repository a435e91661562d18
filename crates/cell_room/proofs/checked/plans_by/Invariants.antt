use Rattle.cell_room.specs.Works.{ArePlans}
use Rattle.phase_terms.specs.Ready.{comparison_in}
use Rattle.substitute.specs.BareParts.{AreBareFrom}
use Rattle.cell_room.proofs.checked.plans_by.Given as goal

-- the phases so far have plans, and of the others the parts are left
abbrev pub invariant-loop-phase : goal.invariant-loop-phase
invariant-loop-phase l = record {
  plans : ArePlans (comparison_in l.fn.compared) l.phase l.plans;
  left : AreBareFrom l.compared.circuit.now l.compared.rules.now.phases l.phase l.left.items;
}
