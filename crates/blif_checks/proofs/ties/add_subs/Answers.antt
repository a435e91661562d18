use Rattle.std.proofs.Common.{arith, refl, ap, ◌++◌, ◌∙◌, List, map}
use Rattle.std.proofs.lemmas.Option.{slice_get_read}
use Rattle.std.specs.Prelude.{filter}
use Rattle.vrt_model.specs.Models.{ties_on}
use Rattle.vrt_model.specs.declared.blif.SubLine.{SubLine}
use Rattle.vrt_model.specs.declared.blif.Tie.{Tie}
use Rattle.blif_checks.specs.Drivers.{in_role, tied_on}
use Rattle.blif_checks.specs.Mentions.{numbered}
use Rattle.blif_checks.proofs.MentionLaws.{more}
use Rattle.blif_checks.proofs.ties.add_subs.Goals as goal

pub loop-sub-preserved : goal.loop-sub-preserved
loop-sub-preserved c =
    more (numbered c.args.names.now) (λ (s : SubLine). ties_on (in_role c.args.role c.args.blif.now s) s) c.args.subs.now c.loop-sub.sub-index c.sub-item.result c.args.list.now c.loop-sub.list c.add_ties.new.list (omega arith)
    (slice_get_read c.args.subs.now _ c.loop-sub.sub-index _ refl (omega arith) c.sub-item.is) c.loop-sub.invariant
    (c.in_ok-add_ties.ensures ∙ ap (λ (ts : List Tie). c.loop-sub.list ++ map (numbered c.args.names.now) (map (tied_on c.sub-item.result) (filter (in_role c.args.role c.args.blif.now c.sub-item.result) ts))) c.as_slice.ensures)
