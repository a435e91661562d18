use Rattle.std.proofs.Common.{Err, arith}
use Rattle.bdd_core.specs.Diagram.{bit_of}
use Rattle.bdd_ops.proofs.CountingLaws.{counts_err, counts_made}
use Rattle.bdd_ops.proofs.WithinLaws.{within_bit}
use Rattle.part_functions.proofs.StandLaws.{stands_constant}
use Rattle.part_functions.proofs.replaced.small_handle.Goals as goal

pub returns-then-handle-lt2-clause-stands : goal.returns-then-handle-lt2-clause-stands
returns-then-handle-lt2-clause-stands c = stands_constant c.args.functions c.args.store.now c.args.handle c.sound.ensures.sound.ends c.if-handle-lt2.true

pub returns-in-Err-clause-counts : goal.returns-in-Err-clause-counts
returns-in-Err-clause-counts c u few =
    let old = c.args.store.now in
    let new = c.bit.new.self in
    let low = c.in-Some.ensures.some.0 in
    counts_err u 1 old new c.in-Err.spent
    (counts_made u old new c.sound.ensures.sound.ends (bit_of c.in-Some.number) (Err c.in-Err.spent) c.in-Err.ensures.makes (within_bit u c.in-Some.number (omega (arith, low, few))))
