-- What is planned pairs with this model, and what stands in the way hinders the cell.
use Rattle.std.proofs.Common.{Err, subst}
use Rattle.cell_compare.proofs.StopLaws.{hindered}
use Rattle.cell_room.specs.Planned.{PlannedTells}
use Rattle.cell_room.specs.declared.planned.NotPlanned.{NotPlanned}
use Rattle.cell_compare.proofs.not_compared.planned_with.Goals as goal

pub returns-in-Ok : goal.returns-in-Ok
returns-in-Ok c = (c.args.model, c.in-Ok.ensures)

pub returns-in-Err-Because : goal.returns-in-Err-Because
returns-in-Err-Because c =
    let a = c.args in
    let tells = subst (λ (stop : NotPlanned). PlannedTells a.design.now a.blif.now a.rules.now a.cell a.model (Err stop)) c.in-Err-Because.field-0-is c.in-Err-Because.ensures in
    hindered a.design.now a.blif.now a.rules.now a.cell a.model c.in-Err-Because.why c.in-Err-Because.flattened c.requires.inputs tells
