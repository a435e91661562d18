use Rattle.std.proofs.Common.{arith, refl, ap, [], ◌∙◌, List, map}
use Rattle.std.proofs.lemmas.Option.{slice_get_read}
use Rattle.names.specs.Names.{with_names}
use Rattle.vrt_model.specs.declared.blif.SubLine.{SubLine}
use Rattle.blif_checks.specs.Tables.{sub_models}
use Rattle.blif_checks.proofs.MentionLaws.{names_more}
use Rattle.blif_checks.proofs.tables.inner_names.Goals as goal

pub loop-model-preserved : goal.loop-model-preserved
loop-model-preserved c =
    names_more sub_models c.args.models.now c.loop-model.model-index c.model-item.result [] c.loop-model.names c.add_inner.new.names (omega arith)
    (slice_get_read c.args.models.now _ c.loop-model.model-index _ refl (omega arith) c.model-item.is) c.loop-model.invariant
    (c.in_ok-add_inner.ensures ∙ ap (λ (ss : List SubLine). with_names c.loop-model.names (map (λ (s : SubLine). s.model) ss)) c.as_slice.ensures)
