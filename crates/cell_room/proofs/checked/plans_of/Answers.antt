use Rattle.std.proofs.Common.{subst}
use Rattle.cell_room.proofs.WorkLaws.{no_cycle_told}
use Rattle.cell_room.specs.Steps.{Stops}
use Rattle.phase_terms.specs.Ready.{comparison_in}
use Rattle.vrt_model.specs.Unsupported.{IsCycleWhy}
use Rattle.cell_room.proofs.checked.plans_of.Goals as goal

pub unreachable-requires : goal.unreachable-requires
unreachable-requires c =
    let k = comparison_in c.args.compared in
    no_cycle_told k c.in-Err-Because.field-0-0 c.requires.acyclic (subst (Stops (IsCycleWhy k)) c.in-Err-Because.field-0-is c.in-Err-Because.ensures)
