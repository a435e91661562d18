use Rattle.cells_below.proofs.SearchLaws.{below_are}
use Rattle.cells_below.proofs.below.cells_below.Goals as goal

pub returns : goal.returns
returns c = below_are c.args.design.now c.args.top c.in_ok-marks.marks.items c.as_slice.result.now c.args.order.now _ c.as_slice.ensures.value c.in_ok-marks.ensures c.kept.ensures
