use Rattle.std.proofs.Common.{List, arith, subst, ◌∙◌}
use Rattle.std.specs.Prelude.{flat_map}
use Rattle.whole_circuits.proofs.ZipLaws.{all_before}
use Rattle.whole_circuits.specs.Ends.{AreOutputCounts}
use Rattle.vrt_model.specs.Cut.{NumberedPlace}
use Rattle.vrt_model.specs.WholeInstances.{outputs_of_place}
use Rattle.whole_circuits.proofs.ends.output_counts.Goals as goal

pub loop-at-preserved : goal.loop-at-preserved
loop-at-preserved c = (
  c.in_ok-count_instance.ensures.len ∙ c.loop-at.invariant.0,
  λ cut blif facts phases is cells. c.in_ok-count_instance.ensures.grows cut blif facts phases is cells (c.loop-at.invariant.1 cut blif facts phases is cells),
)

pub returns-clause-are : goal.returns-clause-are
returns-clause-are c cut blif facts phases is cells =
    let end = c.loop-at-test.false in
    let count = c.len-at-end.ensures in
    subst (λ (ps : List NumberedPlace). AreOutputCounts (flat_map (outputs_of_place cut.top blif facts) ps) c.loop-at.counts.items)
    (all_before cut c.args.unrolled.now c.args.whole.now is c.loop-at.at (omega (arith, end, count))) (c.loop-at.invariant.1 cut blif facts phases is cells)
