use Rattle.std.proofs.Common.{length, sym}
use Rattle.graphs.specs.Graphs.{sources_at}
use Rattle.nesting.proofs.ReachedLaws.{goes_down, goes_first, goes_on}
use Rattle.nesting.specs.Reached.{AreUnder}
use Rattle.port_links.proofs.ReachLaws.{reaching_by}
use Rattle.port_links.proofs.reaching.reaching.Goals as goal

pub loop-at-init : goal.loop-at-init
loop-at-init c =
    let under : AreUnder (sources_at c.args.sources.now) (length c.args.sources.now) = λ m n among. c.requires n m among in
    goes_first (sources_at c.args.sources.now) (length c.args.sources.now) under c.args.to c.in_ok-marks.marks.items c.meet_all.new.marks.items c.new-met.result c.meet_all.new.met
    c.sources_at.result.now c.in_ok-marks.ensures c.new-met.ensures c.sources_at.ensures c.in_ok-meet_all.ensures

pub returns-in_default : goal.returns-in_default
returns-in_default c =
    let under : AreUnder (sources_at c.args.sources.now) (length c.args.sources.now) = λ m n among. c.requires n m among in
    reaching_by c.args.sources.now c.args.to c.loop-at.marks.items
    (goes_down (sources_at c.args.sources.now) (length c.args.sources.now) under c.args.to c.loop-at.at c.loop-at.marks.items c.loop-at.met (sym c.in_default.ensures) c.loop-at.invariant)

pub loop-at-preserved : goal.loop-at-preserved
loop-at-preserved c =
    let under : AreUnder (sources_at c.args.sources.now) (length c.args.sources.now) = λ m n among. c.requires n m among in
    goes_on (sources_at c.args.sources.now) (length c.args.sources.now) under c.args.to c.loop-at.at c.in-Some.number c.loop-at.marks.items c.meet_all-in-loop-at.new.marks.items c.loop-at.met
    c.meet_all-in-loop-at.new.met c.sources_at-in-loop-at.result.now (sym c.in-Some.ensures) c.sources_at-in-loop-at.ensures c.loop-at.invariant c.in_ok-meet_all-2.ensures
