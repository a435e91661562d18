use Rattle.std.proofs.Common.{Bool, List, ap, ap₂, ◌||◌, ◌∙◌}
use Rattle.std.specs.List.{list_any}
use Rattle.std.specs.Prelude.{bytes_eq}
use Rattle.constraints.specs.Obliged.{is_asked}
use Rattle.vrt_model.specs.Comparison.{cell_at}
use Rattle.vrt_model.specs.declared.rules.AssumeRule.{AssumeRule}
use Rattle.vrt_model.specs.declared.rules.ClockportRule.{ClockportRule}
use Rattle.constraints.proofs.named.is_constrained.Goals as goal

pub returns : goal.returns
returns c =
    let read = c.cell_name-cell.result.now in
    let cell = (cell_at c.args.design.now c.args.instance.now.cell).name in
    c.either.ensures
    ∙ ap₂ (λ (x y : Bool). x || y)
    (c.any_asked-assumed.ensures
    ∙ ap (λ (rules : List AssumeRule). list_any (is_asked read c.args.phase) rules) c.as_slice.ensures
    ∙ ap (λ name. list_any (is_asked name c.args.phase) c.args.rules.now.assumes) c.cell_name-cell.ensures)
    (c.any_of-clocked.ensures
    ∙ ap (λ (rules : List ClockportRule). list_any (λ (r : ClockportRule). bytes_eq r.cell read) rules) c.as_slice-2.ensures
    ∙ ap (λ name. list_any (λ (r : ClockportRule). bytes_eq r.cell name) c.args.rules.now.clockports) c.cell_name-cell.ensures)
