use Rattle.std.proofs.Common.{◌++◌, ◌∷◌, [], sym, ap, ◌∙◌}
use Rattle.std.proofs.lemmas.List.Folds.{find-append}
use Rattle.std.specs.List.{find}
use Rattle.std.specs.Option.{option_or}
use Rattle.model_writer.specs.Refused.{is_refused}
use Rattle.model_writer.proofs.refused.refused_name.Goals as goal

pub returns : goal.returns
returns c =
    let name = c.args.lines.name.now in
    let inputs = c.args.lines.inputs.now in
    let clocks = c.args.lines.clocks.now in
    let outputs = c.args.lines.outputs.now in
    c.or_refused.ensures
    ∙ ap (λ o. option_or o (find is_refused outputs))
    (c.or_refused-clocks.ensures
    ∙ ap (λ o. option_or o (find is_refused clocks))
    (c.or_refused-inputs.ensures ∙ ap (λ o. option_or o (find is_refused inputs)) c.refused_one-own.ensures ∙ sym (find-append is_refused (name ∷ []) inputs))
    ∙ sym (find-append is_refused ((name ∷ []) ++ inputs) clocks))
    ∙ sym (find-append is_refused (((name ∷ []) ++ inputs) ++ clocks) outputs)
