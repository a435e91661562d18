use Rattle.std.proofs.Common.{arith, refl, ap, ◌∙◌, List, map}
use Rattle.names.specs.Names.{with_names}
use Rattle.vrt_model.specs.declared.blif.Tie.{Tie}
use Rattle.std.proofs.lemmas.Option.{slice_get_read}
use Rattle.vrt_model.specs.FlatBlif.{sub_signals}
use Rattle.blif_checks.proofs.MentionLaws.{names_more}
use Rattle.blif_checks.proofs.signals.add_subs.Goals as goal

pub loop-sub-preserved : goal.loop-sub-preserved
loop-sub-preserved c =
    names_more sub_signals c.args.subs.now c.loop-sub.sub-index c.sub-item.result c.args.names.now c.loop-sub.names c.add_ties.new.names (omega arith)
    (slice_get_read c.args.subs.now _ c.loop-sub.sub-index _ refl (omega arith) c.sub-item.is) c.loop-sub.invariant
    (c.in_ok-add_ties.ensures ∙ ap (λ (ts : List Tie). with_names c.loop-sub.names (map (λ (t : Tie). t.actual) ts)) c.as_slice.ensures)
