use Rattle.std.proofs.Common.{arith, [], ◌∙◌}
use Rattle.std.proofs.lemmas.List.{length-replicate, length-set}
use Rattle.flat_sizes.proofs.TotalLaws.{all_listed, listed_first, listed_more}
use Rattle.flat_sizes.specs.declared.stands.Stand.{Stand}
use Rattle.flat_sizes.proofs.totals.listed.Goals as goal

pub loop-cell-init : goal.loop-cell-init
loop-cell-init c = record { so_far = listed_first c.args.table.now []; size = (let none : Stand = record { cell = 0; count = 0 } in length-replicate 4096 none) }

pub loop-cell-preserved : goal.loop-cell-preserved
loop-cell-preserved c = record {
  so_far = listed_more c.args.table.now c.loop-cell.stands c.loop-cell.cell c.stand_of.result (omega arith) (omega (arith, c.loop-cell.invariant.size, c.loop-cell-test.true)) c.stand_of.ensures.cell
      c.stand_of.ensures.count c.loop-cell.invariant.so_far;
  size = length-set c.loop-cell.stands c.loop-cell.cell c.stand_of.result ∙ c.loop-cell.invariant.size;
}

pub returns : goal.returns
returns c =
    all_listed c.args.table.now c.loop-cell.stands c.loop-cell.cell (omega arith) (omega (arith, c.loop-cell.invariant.size, c.loop-cell-test.false)) c.loop-cell.invariant.so_far
