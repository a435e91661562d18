use Rattle.std.proofs.Common.{arith, refl, ap, [], ◌∷◌, ◌∙◌, List, ℕ}
use Rattle.std.proofs.lemmas.Option.{slice_get_read}
use Rattle.names.specs.Names.{with_names}
use Rattle.vrt_model.specs.declared.blif.SubLine.{SubLine}
use Rattle.blif_checks.proofs.MentionLaws.{names_more_one}
use Rattle.blif_checks.proofs.tables.add_inner.Goals as goal

pub loop-sub-preserved : goal.loop-sub-preserved
loop-sub-preserved c =
    names_more_one (λ (s : SubLine). s.model) c.args.subs.now c.loop-sub.sub-index c.sub-item.result c.args.names.now c.loop-sub.names c.number.new.self (omega arith)
    (slice_get_read c.args.subs.now _ c.loop-sub.sub-index _ refl (omega arith) c.sub-item.is) c.loop-sub.invariant
    (c.in_ok-number.ensures.names ∙ ap (λ (b : List ℕ). with_names c.loop-sub.names (b ∷ [])) c.as_bytes.ensures)
