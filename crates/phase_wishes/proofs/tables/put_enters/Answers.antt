use Rattle.std.proofs.Common.{arith}
use Rattle.phase_wishes.proofs.TableLaws.{enters_done, enters_more}
use Rattle.phase_wishes.proofs.tables.put_enters.Goals as goal

pub loop-place-preserved : goal.loop-place-preserved
loop-place-preserved c =
    enters_more c.args.circuit.now c.args.phase c.loop-place.place c.args.table.now.items c.loop-place.table.items c.put_enter.new.table.items c.loop-place.invariant c.put_enter.ensures

pub returns : goal.returns
returns c =
    enters_done c.args.circuit.now c.args.phase c.loop-place.place c.args.table.now.items c.loop-place.table.items
    (omega (arith, c.loop-place-test.false, c.in-Ok.ensures, c.len.ensures)) c.loop-place.invariant
