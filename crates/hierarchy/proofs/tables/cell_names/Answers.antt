use Rattle.std.proofs.Common.{ap, ◌∙◌, map}
use Rattle.vrt_model.specs.Lists.{distinct}
use Rattle.vrt_model.specs.declared.design.Cell.{Cell}
use Rattle.names.proofs.ApartLaws.{names_apart, once_is_all}
use Rattle.hierarchy.proofs.tables.cell_names.Goals as goal

pub returns : goal.returns
returns c =
    c.in_ok-names.ensures ∙ ap (λ cs. distinct (map (λ (x : Cell). x.name) cs)) c.as_slice.ensures
    ∙ once_is_all _ (names_apart (λ (x : Cell). x.name) c.args.design.now.cells c.requires.names)
