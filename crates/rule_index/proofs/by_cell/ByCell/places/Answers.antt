use Rattle.std.proofs.Common.{ℕ, List, [], get_or, ap, sym, ◌∙◌}
use Rattle.rule_index.proofs.PlaceLaws.{under_at, under_none}
use Rattle.rule_index.proofs.by_cell.ByCell.places.Goals as goal

pub returns-in-Some : goal.returns-in-Some
returns-in-Some c =
    c.group_at.ensures ∙ ap (λ (gs : List (List ℕ)). get_or gs c.in-Some.at []) c.as_slice.ensures.value
    ∙ sym (under_at c.args.self.now.names c.args.self.now.groups.items c.args.cell.now c.in-Some.at (sym c.in-Some.ensures))

pub returns-in-None : goal.returns-in-None
returns-in-None c = sym (under_none c.args.self.now.names c.args.self.now.groups.items c.args.cell.now (sym c.in-None.ensures))
