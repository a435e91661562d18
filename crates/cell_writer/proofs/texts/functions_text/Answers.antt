use Rattle.std.proofs.Common.{ap, map, ◌∙◌}
use Rattle.cell_writer.proofs.TextLaws.{chosen_live}
use Rattle.output_joins.specs.Joins.{handle_in}
use Rattle.cell_writer.proofs.texts.functions_text.Goals as goal

pub logic_text-requires-clause-live : goal.logic_text-requires-clause-live
logic_text-requires-clause-live c =
    chosen_live c.args.functions.now c.args.outputs.now c.as_slice-2.result.now c.requires.live c.requires.outputs
    (c.as_slice-2.ensures.value ∙ c.in-Ok.ensures ∙ ap (λ hs. map (handle_in hs) c.args.outputs.now) c.as_slice.ensures.value)
