use Rattle.std.proofs.Common.{ap, arith}
use Rattle.std.proofs.lemmas.List.Sums.{sum_by_more}
use Rattle.std.proofs.lemmas.Option.{get_or_from_slice_get}
use Rattle.vrt_model.specs.Elements.{element_count}
use Rattle.vrt_model.specs.declared.flat_model.FlatLatch.{FlatLatch}
use Rattle.model_rows.proofs.checks.element_number.Goals as goal

pub loop-at-preserved : goal.loop-at-preserved
loop-at-preserved c =
    let latches = c.args.latches.now in
    let latch : FlatLatch = c.latch_at-latch.result in
    let sum = sum_by_more (λ (l : FlatLatch). element_count l.kind) latches c.loop-at.at latch c.loop-at-test.true in
    let is = ap (λ (l : FlatLatch). element_count l.kind) (get_or_from_slice_get latches c.loop-at.at latch latch c.latch_at-latch.ensures) in
    omega (arith, sum, is, c.elements_of.ensures, c.in-Some.ensures, c.loop-at.invariant)
