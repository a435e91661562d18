use Rattle.std.proofs.Common.{◌∙◌}
use Rattle.std.proofs.lemmas.Option.{slice_get-get_or}
use Rattle.domino_order.proofs.BitLists.{bits_more}
use Rattle.domino_order.proofs.runs.with_arrivals.Goals as goal

pub loop-variable-preserved : goal.loop-variable-preserved
loop-variable-preserved c =
    c.in_ok-append.ensures
    ∙ bits_more c.args.begin.now c.args.arrivals.now c.loop-variable.variable-index _ c.args.end c.loop-variable.bits
    (slice_get-get_or c.args.arrivals.now c.loop-variable.variable-index _ c.loop-variable-test.true) c.loop-variable.invariant
