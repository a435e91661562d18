-- The cell is supported, and its circuit is the checked one.
use Rattle.std.proofs.Common.{subst, sym}
use Rattle.cell_compare.proofs.WorkspaceLaws.{workspace_of}
use Rattle.cell_compare.specs.Workspace.{IsWorkspace}
use Rattle.cell_room.specs.Compared.{comparison}
use Rattle.cell_room.specs.Flat.{Flattened}
use Rattle.cell_room.specs.Made.{circuit_in}
use Rattle.checked_cells.specs.Given.{IsCheckedOf}
use Rattle.cell_compare.proofs.opened.opened.Goals as goal

pub returns-clause-opened : goal.returns-clause-opened
returns-clause-opened c =
    let a = c.args in
    let made = c.in_ok-made.made in
    let of = subst (λ (f : Flattened). IsCheckedOf (comparison a.design.now a.rules.now a.cell f) a.blif.now a.facts.now (circuit_in made)) (sym c.in_ok-made.ensures.flattened) c.in_ok-made.ensures.checked in
    subst (IsWorkspace a.design.now a.blif.now a.rules.now a.facts.now a.budget a.cell) (sym c.new.ensures)
    (workspace_of a.design.now a.blif.now a.rules.now a.facts.now a.budget a.cell made c.in_ok-room.room.levels c.in_ok-made.ensures.made of)
