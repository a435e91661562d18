use Rattle.std.proofs.Common.{arith, refl, ap, [], ◌∷◌, ◌∙◌, List, ℕ}
use Rattle.std.proofs.lemmas.Option.{slice_get_read}
use Rattle.names.specs.Names.{with_names}
use Rattle.vrt_model.specs.declared.blif.CoverLine.{CoverLine}
use Rattle.blif_checks.proofs.MentionLaws.{names_more_one}
use Rattle.blif_flat.proofs.network.outputs_of.Goals as goal

pub loop-cover-preserved : goal.loop-cover-preserved
loop-cover-preserved c =
    names_more_one (λ (x : CoverLine). x.output) c.args.covers.now c.loop-cover.cover-index c.cover-item.result [] c.loop-cover.names c.number.new.self (omega arith)
    (slice_get_read c.args.covers.now _ c.loop-cover.cover-index _ refl (omega arith) c.cover-item.is) c.loop-cover.invariant
    (c.in_ok-number.ensures.names ∙ ap (λ (b : List ℕ). with_names c.loop-cover.names (b ∷ [])) c.as_bytes.ensures)
