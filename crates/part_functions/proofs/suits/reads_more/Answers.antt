use Rattle.std.proofs.Common.{ℕ, arith, subst, sym}
use Rattle.bdd_core.specs.Diagram.{IsWithin, meaning}
use Rattle.part_functions.proofs.suits.reads_more.Goals as goal

pub returns-then-reads_from : goal.returns-then-reads_from
returns-then-reads_from c e u within =
    let d = c.args.store.now in
    let reads = subst (λ (h : ℕ). IsWithin u (meaning d.nodes h)) (sym c.at.ensures) (within c.loop-number.number) in
    let low = c.reads_from.ensures c.if-reads_from.true u reads in
    let some = c.loop-number-test.true in
    omega (arith, low, some)
