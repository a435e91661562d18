use Rattle.std.proofs.Common.{arith, refl, ap, [], ◌∷◌, ◌++◌, ◌∙◌, List, ℕ}
use Rattle.std.proofs.lemmas.Option.{slice_get_read}
use Rattle.vrt_model.specs.Models.{on_line}
use Rattle.vrt_model.specs.declared.blif.CoverLine.{CoverLine}
use Rattle.blif_checks.specs.Mentions.{numbered}
use Rattle.blif_checks.proofs.MentionLaws.{more_one}
use Rattle.blif_checks.proofs.drivers.add_covers.Goals as goal

pub loop-cover-preserved : goal.loop-cover-preserved
loop-cover-preserved c =
    more_one (numbered c.args.names.now) (λ (x : CoverLine). on_line x.line x.output) c.args.covers.now c.loop-cover.cover-index c.cover-item.result c.args.list.now c.loop-cover.list c.add.new.list (omega arith)
    (slice_get_read c.args.covers.now _ c.loop-cover.cover-index _ refl (omega arith) c.cover-item.is) c.loop-cover.invariant
    (c.in_ok-add.ensures ∙ ap (λ (b : List ℕ). c.loop-cover.list ++ numbered c.args.names.now (on_line c.cover-item.result.line b) ∷ []) c.as_bytes.ensures)
