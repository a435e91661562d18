use Rattle.std.proofs.Common.{arith, refl, ap, [], ◌∷◌, ◌∙◌, List, ℕ}
use Rattle.std.proofs.lemmas.Option.{slice_get_read}
use Rattle.names.specs.Names.{with_names}
use Rattle.vrt_model.specs.declared.blif.Tie.{Tie}
use Rattle.blif_checks.proofs.MentionLaws.{names_more_one}
use Rattle.blif_checks.proofs.signals.add_ties.Goals as goal

pub loop-tie-preserved : goal.loop-tie-preserved
loop-tie-preserved c =
    names_more_one (λ (t : Tie). t.actual) c.args.ties.now c.loop-tie.tie-index c.tie-item.result c.args.names.now c.loop-tie.names c.number.new.self (omega arith)
    (slice_get_read c.args.ties.now _ c.loop-tie.tie-index _ refl (omega arith) c.tie-item.is) c.loop-tie.invariant
    (c.in_ok-number.ensures.names ∙ ap (λ (b : List ℕ). with_names c.loop-tie.names (b ∷ [])) c.as_bytes.ensures)
