-- The plans have the known nets of the phases.
use Rattle.cell_room.proofs.OutputLaws.{lone_by_plans, wired_flat}
use Rattle.phase_terms.specs.Ready.{comparison_in}
use Rattle.cell_room.proofs.lone.lone_in.Goals as goal

pub lone_ports-requires-clause-wired : goal.lone_ports-requires-clause-wired
lone_ports-requires-clause-wired c = wired_flat (comparison_in c.args.phases.compared) c.args.phases.blif.now c.args.phases.facts.now c.requires.phases.checkable c.requires.phases.ready.circuit

pub returns : goal.returns
returns c = lone_by_plans (comparison_in c.args.phases.compared) c.args.phases.plans.now c.args.nets.now c.in_ok-lone.lone.items c.requires.phases.plans c.in_ok-lone.ensures
