use Rattle.std.proofs.Common.{ap, ap₂, ◌∙◌, List, map, ℕ}
use Rattle.vrt_model.specs.Lists.{distinct}
use Rattle.vrt_model.specs.declared.blif.BlifModel.{BlifModel}
use Rattle.blif_checks.specs.Tables.{inner_names, interface_by}
use Rattle.names.proofs.ApartLaws.{names_apart, once_is_all}
use Rattle.blif_checks.proofs.tables.tables_of.Goals as goal

pub returns : goal.returns
returns c = record {
  names =
      c.in_ok-names_of.ensures ∙ ap (λ ms. distinct (map (λ (m : BlifModel). m.name) ms)) c.as_slice-models.ensures
      ∙ once_is_all _ (names_apart (λ (m : BlifModel). m.name) c.args.blif.now.models c.requires.names);
  interfaces =
      c.in_ok-interfaces_of.ensures
      ∙ ap₂ (λ (inner : List (List ℕ)) (ms : List BlifModel). map (interface_by inner) ms) (c.in_ok-inner.ensures ∙ ap inner_names c.as_slice-models.ensures) c.as_slice-models.ensures;
}
