use Rattle.std.proofs.Common.{arith}
use Rattle.flat_sizes.proofs.TotalLaws.{all_added}
use Rattle.flat_sizes.proofs.totals.add_level.Goals as goal

pub returns-clause-next : goal.returns-clause-next
returns-clause-next c = all_added c.args.design.now c.args.level.now c.args.next.now c.loop-cell.next c.loop-cell.cell (omega (arith, c.loop-cell-test.false)) c.loop-cell.invariant.next

pub returns-clause-all : goal.returns-clause-all
returns-clause-all c = all_added c.args.design.now c.args.level.now c.args.all.now c.loop-cell.all c.loop-cell.cell (omega (arith, c.loop-cell-test.false)) c.loop-cell.invariant.all
