use Rattle.std.proofs.Common.{◌≡◌, List, [], ◌∷◌, ◌++◌, ap, subst, sym, ◌∙◌}
use Rattle.checked_cells.specs.Given.{AreTrueFacts}
use Rattle.vrt_model.specs.declared.whole.CellFacts.{CellFacts}
use Rattle.worked_rows.proofs.FactLaws.{first_is_known}
use Rattle.worked_rows.proofs.wholes.known.Goals as goal

pub returns-in-Ok : goal.returns-in-Ok
returns-in-Ok c =
    let i = c.args.inputs.now in
    let found = c.in_ok-_verdict.field-0 in
    let first : List CellFacts = found.facts ∷ [] in
    let is : c.append.new.self ≡ first = c.in-Ok.ensures ∙ ap (λ (fs : List CellFacts). fs ++ first) c.new-facts.ensures in
    subst (AreTrueFacts i.design i.blif i.rules) (sym is) (first_is_known i.design i.blif i.rules _ found.verdict found.facts c.in_ok-_verdict.ensures)
