use Rattle.std.proofs.Common.{arith, refl, ap, [], ◌∷◌, ◌++◌, ◌∙◌, List, ℕ}
use Rattle.std.proofs.lemmas.Option.{slice_get_read}
use Rattle.vrt_model.specs.Models.{on_line}
use Rattle.vrt_model.specs.declared.blif.LatchLine.{LatchLine}
use Rattle.blif_checks.specs.Mentions.{numbered}
use Rattle.blif_checks.proofs.MentionLaws.{more_one}
use Rattle.blif_checks.proofs.drivers.add_latches.Goals as goal

pub loop-latch-preserved : goal.loop-latch-preserved
loop-latch-preserved c =
    more_one (numbered c.args.names.now) (λ (x : LatchLine). on_line x.line x.output) c.args.latches.now c.loop-latch.latch-index c.latch-item.result c.args.list.now c.loop-latch.list c.add.new.list (omega arith)
    (slice_get_read c.args.latches.now _ c.loop-latch.latch-index _ refl (omega arith) c.latch-item.is) c.loop-latch.invariant
    (c.in_ok-add.ensures ∙ ap (λ (b : List ℕ). c.loop-latch.list ++ numbered c.args.names.now (on_line c.latch-item.result.line b) ∷ []) c.as_bytes.ensures)
