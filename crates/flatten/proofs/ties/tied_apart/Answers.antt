use Rattle.std.proofs.Common.{◌≡◌, ℕ, List, Option, subst}
use Rattle.std.specs.Prelude.{IfOk}
use Rattle.flatten.proofs.WalkLaws.{from_top}
use Rattle.rule_index.specs.Tables.{supply_in}
use Rattle.flatten.proofs.ties.tied_apart.Goals as goal

pub returns : goal.returns
returns c =
    subst (λ (tie : Option (List ℕ)). IfOk c.first_from.result (λ path. path ≡ tie))
    (from_top c.args.design.now (supply_in c.args.supplies.now) c.args.cell c.new.result c.as_slice.result.now c.in_ok-values.values c.cell_of-found.result.now c.new.ensures c.in_ok-values.ensures c.as_slice.ensures c.cell_of-found.ensures)
    c.first_from.ensures
