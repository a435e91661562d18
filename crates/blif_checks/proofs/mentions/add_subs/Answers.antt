use Rattle.std.proofs.Common.{arith, refl, ap, ◌++◌, ◌∙◌, List, map}
use Rattle.std.proofs.lemmas.Option.{slice_get_read}
use Rattle.vrt_model.specs.Models.{on_line}
use Rattle.vrt_model.specs.declared.blif.Tie.{Tie}
use Rattle.blif_checks.specs.Mentions.{numbered, sub_mentions}
use Rattle.blif_checks.proofs.MentionLaws.{more}
use Rattle.blif_checks.proofs.mentions.add_subs.Goals as goal

pub loop-sub-preserved : goal.loop-sub-preserved
loop-sub-preserved c =
    more (numbered c.args.names.now) sub_mentions c.args.subs.now c.loop-sub.sub-index c.sub-item.result c.args.list.now c.loop-sub.list c.add_ties.new.list (omega arith)
    (slice_get_read c.args.subs.now _ c.loop-sub.sub-index _ refl (omega arith) c.sub-item.is) c.loop-sub.invariant
    (c.in_ok-add_ties.ensures ∙ ap (λ (ts : List Tie). c.loop-sub.list ++ map (numbered c.args.names.now) (map (on_line c.sub-item.result.line) (map (λ (t : Tie). t.actual) ts))) c.as_slice.ensures)
