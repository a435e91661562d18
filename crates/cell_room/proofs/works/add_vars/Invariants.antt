use Rattle.cell_room.specs.Works.{AreVars}
use Rattle.phase_terms.specs.Ready.{comparison_in}
use Rattle.cell_room.proofs.works.add_vars.Given as goal

-- the phases so far have few variables
abbrev pub invariant-loop-phase : goal.invariant-loop-phase
invariant-loop-phase l = AreVars (comparison_in l.fn.compared) l.phase l.vars
