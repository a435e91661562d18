use Rattle.std.proofs.Common.{arith, refl, ap, ◌++◌, ◌∙◌, List, ℕ, map}
use Rattle.std.proofs.lemmas.Option.{slice_get_read}
use Rattle.vrt_model.specs.Models.{on_line}
use Rattle.vrt_model.specs.declared.blif.CoverLine.{CoverLine}
use Rattle.blif_checks.specs.Mentions.{numbered}
use Rattle.blif_checks.proofs.MentionLaws.{more}
use Rattle.blif_checks.proofs.uses.add_covers.Goals as goal

pub loop-cover-preserved : goal.loop-cover-preserved
loop-cover-preserved c =
    more (numbered c.args.names.now) (λ (x : CoverLine). map (on_line x.line) x.inputs) c.args.covers.now c.loop-cover.cover-index c.cover-item.result c.args.list.now c.loop-cover.list c.add_all.new.list (omega arith)
    (slice_get_read c.args.covers.now _ c.loop-cover.cover-index _ refl (omega arith) c.cover-item.is) c.loop-cover.invariant
    (c.in_ok-add_all.ensures ∙ ap (λ (ns : List (List ℕ)). c.loop-cover.list ++ map (numbered c.args.names.now) (map (on_line c.cover-item.result.line) ns)) c.as_slice.ensures)
