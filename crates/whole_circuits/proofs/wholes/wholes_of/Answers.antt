use Rattle.std.proofs.Common.{List, arith, subst}
use Rattle.std.specs.List.{AllZip}
use Rattle.whole_circuits.proofs.ZipLaws.{all_before}
use Rattle.vrt_model.specs.Cut.{NumberedPlace}
use Rattle.vrt_model.specs.WholeInstances.{IsWholeAt}
use Rattle.whole_circuits.proofs.wholes.wholes_of.Goals as goal

pub returns : goal.returns
returns c cut blif facts d has is cells =
    let end = c.loop-at-test.false in
    let count = c.len-at-end.ensures in
    subst (λ (ps : List NumberedPlace). AllZip (IsWholeAt cut blif facts) ps c.loop-at.wholes)
    (all_before cut c.args.unrolled.now c.args.whole.now is c.loop-at.at (omega (arith, end, count))) (c.loop-at.invariant cut blif facts d has is cells)
