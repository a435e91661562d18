use Rattle.std.proofs.Common.{arith}
use Rattle.rule_index.proofs.PlaceLaws.{placed_on}
use Rattle.rule_index.specs.Lines.{places_in}
use Rattle.rule_index.proofs.by_cell.ByCell.fill.Goals as goal

pub loop-place-preserved : goal.loop-place-preserved
loop-place-preserved g c = record {
  paired = c.in_ok-add.ensures.paired;
  so_far = placed_on g.R.OfCell.cell_of c.args.rules.now c.loop-place.place c.index-rules-place.result (places_in c.loop-place.self) (places_in c.add.new.self) c.cell_name.result.now (omega (arith, c.loop-place-test.true))
      c.index-rules-place.is c.cell_name.ensures c.in_ok-add.ensures.added c.loop-place.invariant.so_far;
}
