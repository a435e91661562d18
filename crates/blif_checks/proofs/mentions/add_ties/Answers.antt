use Rattle.std.proofs.Common.{arith, refl, ap, [], ◌∷◌, ◌++◌, ◌∙◌, List, ℕ}
use Rattle.std.proofs.lemmas.Option.{slice_get_read}
use Rattle.vrt_model.specs.Models.{on_line}
use Rattle.blif_checks.specs.Mentions.{numbered}
use Rattle.blif_checks.proofs.MentionLaws.{more_actual}
use Rattle.blif_checks.proofs.mentions.add_ties.Goals as goal

pub loop-tie-preserved : goal.loop-tie-preserved
loop-tie-preserved c =
    more_actual (numbered c.args.names.now) c.args.line c.args.ties.now c.loop-tie.tie-index c.tie-item.result c.args.list.now c.loop-tie.list c.add.new.list (omega arith)
    (slice_get_read c.args.ties.now _ c.loop-tie.tie-index _ refl (omega arith) c.tie-item.is) c.loop-tie.invariant
    (c.in_ok-add.ensures ∙ ap (λ (b : List ℕ). c.loop-tie.list ++ numbered c.args.names.now (on_line c.args.line b) ∷ []) c.as_bytes.ensures)
