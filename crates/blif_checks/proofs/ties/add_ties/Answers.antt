use Rattle.std.proofs.Common.{arith, refl}
use Rattle.std.proofs.lemmas.Option.{slice_get_read}
use Rattle.blif_checks.specs.Drivers.{in_role, tied_on}
use Rattle.blif_checks.specs.Mentions.{numbered}
use Rattle.blif_checks.proofs.MentionLaws.{more_kept}
use Rattle.blif_checks.proofs.ties.add_ties.Goals as goal

pub loop-tie-preserved : goal.loop-tie-preserved
loop-tie-preserved c =
    more_kept (numbered c.args.names.now) (tied_on c.args.sub.now) (in_role c.args.role c.args.blif.now c.args.sub.now) c.args.ties.now c.loop-tie.tie-index c.tie-item.result c.args.list.now c.loop-tie.list c.add_tie.new.list (omega arith)
    (slice_get_read c.args.ties.now _ c.loop-tie.tie-index _ refl (omega arith) c.tie-item.is) c.loop-tie.invariant c.in_ok-add_tie.ensures
