use Rattle.std.proofs.Common.{List, ℕ, subst}
use Rattle.arrival_lines.specs.RisingNames.{rising_fault}
use Rattle.cell_room.specs.Compared.{comparison}
use Rattle.mode_lines.specs.Lists.{Tells}
use Rattle.arrival_lines.proofs.telling.arrival_told.Goals as goal

pub returns-clause-err : goal.returns-clause-err
returns-clause-err c =
    let k = comparison c.args.design.now c.args.rules.now c.args.cell c.args.flattened.now in
    subst (λ (ns : List (List ℕ)). Tells (rising_fault k ns) c.in-Err.fault) c.as_slice-names.ensures (c.in-Err.ensures.err c.args.rules.now)
