use Rattle.std.proofs.Common.{length, sym}
use Rattle.nesting.specs.Depths.{in_list}
use Rattle.nesting.proofs.ReachedLaws.{goes_down, goes_first, goes_on}
use Rattle.nesting.proofs.reached.marks_within.Goals as goal

pub loop-at-init : goal.loop-at-init
loop-at-init c =
    goes_first (in_list c.args.inner.now) (length c.args.inner.now) c.requires c.args.top c.in_ok-marks.marks.items c.meet_all.new.marks.items c.new-met.result c.meet_all.new.met
    c.inner_at.result.now c.in_ok-marks.ensures c.new-met.ensures c.inner_at.ensures c.in_ok-meet_all.ensures

pub returns-in_default : goal.returns-in_default
returns-in_default c =
    goes_down (in_list c.args.inner.now) (length c.args.inner.now) c.requires c.args.top c.loop-at.at c.loop-at.marks.items c.loop-at.met (sym c.in_default.ensures) c.loop-at.invariant

pub loop-at-preserved : goal.loop-at-preserved
loop-at-preserved c =
    goes_on (in_list c.args.inner.now) (length c.args.inner.now) c.requires c.args.top c.loop-at.at c.in-Some.number c.loop-at.marks.items c.meet_all-in-loop-at.new.marks.items c.loop-at.met
    c.meet_all-in-loop-at.new.met c.inner_at-in-loop-at.result.now (sym c.in-Some.ensures) c.inner_at-in-loop-at.ensures c.loop-at.invariant c.in_ok-meet_all-2.ensures
