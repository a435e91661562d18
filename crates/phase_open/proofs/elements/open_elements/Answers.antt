use Rattle.std.proofs.Common.{arith}
use Rattle.bdd_core.proofs.Frames.{writes_then}
use Rattle.phase_open.proofs.ElementLaws.{elements_more}
use Rattle.phase_open.proofs.RootLaws.{counted_next, refused_next}
use Rattle.phase_open.proofs.elements.open_elements.Goals as goal

pub loop-e-preserved : goal.loop-e-preserved
loop-e-preserved c =
    let held = c.args.held in
    let first = c.args.store.now in
    let old = c.loop-e.store in
    let new = c.open_element.new.store in
    record {
      writes = writes_then held first old new c.loop-e.invariant.writes c.open_element.ensures.writes;
      counted = λ u few. counted_next u c.loop-e.e first old new tt (c.loop-e.invariant.counted u few) (c.in-Ok.ensures.counts u (omega (arith, few, c.loop-e-test.true)));
      elements = elements_more held old new c.loop-e.e c.args.first (omega (arith, c.loop-e-test.true)) c.loop-e.invariant.writes.live c.open_element.ensures.writes c.open_element.ensures.apart
          c.in-Ok.ensures.is c.loop-e.invariant.elements;
    }

pub returns-in-Err-clause-counts : goal.returns-in-Err-clause-counts
returns-in-Err-clause-counts c u few =
    refused_next {A = Unit {0}} {B = Unit {0}} u c.loop-e.e c.args.held.len c.args.store.now c.loop-e.store c.open_element.new.store c.in-Err.spent (omega (arith, c.loop-e-test.true))
    (c.loop-e.invariant.counted u few) (c.in-Err.ensures.counts u (omega (arith, few, c.loop-e-test.true)))
