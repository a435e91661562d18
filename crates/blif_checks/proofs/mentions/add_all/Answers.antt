use Rattle.std.proofs.Common.{arith, refl, ap, [], ◌∷◌, ◌++◌, ◌∙◌}
use Rattle.std.proofs.lemmas.Option.{slice_get_read}
use Rattle.vrt_model.specs.Models.{on_line}
use Rattle.blif_checks.specs.Mentions.{numbered}
use Rattle.blif_checks.proofs.MentionLaws.{more_one}
use Rattle.blif_checks.proofs.mentions.add_all.Goals as goal

pub loop-signal-preserved : goal.loop-signal-preserved
loop-signal-preserved c =
    more_one (numbered c.args.names.now) (on_line c.args.line) c.args.signals.now c.loop-signal.signal-index _ c.args.list.now c.loop-signal.list c.add.new.list (omega arith)
    (slice_get_read c.args.signals.now _ c.loop-signal.signal-index _ refl (omega arith) c.signal-item.is) c.loop-signal.invariant (c.in_ok-add.ensures ∙ ap (λ b. c.loop-signal.list ++ numbered c.args.names.now (on_line c.args.line b) ∷ []) c.as_bytes.ensures)
