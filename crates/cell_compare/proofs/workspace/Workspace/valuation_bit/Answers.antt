-- The bits of the last fault stand in its words.
use Rattle.std.proofs.Common.{◌≡◌, ap, arith, false, sym, subst, ◌∙◌}
use Rattle.std.specs.Prelude.{eqb}
use Rattle.bdd_ops.specs.Ops.{bits_of}
use Rattle.cell_compare.proofs.WorkspaceLaws.{bit_is_read, no_bit, words_there}
use Rattle.cell_compare.specs.Workspace.{View, bits_of_last}
use Rattle.cell_room.specs.Made.{searched}
use Rattle.cell_compare.proofs.workspace.Workspace.valuation_bit.Goals as goal

pub returns-then-var-last : goal.returns-then-var-last
returns-then-var-last c =
    let w = c.self.inside in
    subst (λ (v : View). false ≡ bits_of (bits_of_last v.last) c.args.var) c.self.view_is
    (sym (no_bit w.store w.last c.in-Some.last c.in-Some-fault.fault c.args.var c.in-Some.is c.in-Some-fault.is c.if-var-last.true))

pub read-requires-clause-live : goal.read-requires-clause-live
read-requires-clause-live c =
    let w = c.self.inside in
    let k = searched w.design.now w.rules.now w.cell w.made in
    (words_there k w.budget w.levels w.store w.last c.in-Some.last c.in-Some-fault.fault c.in-Some.is c.in-Some-fault.is c.self.invariant.last).0

pub read-requires-clause-within : goal.read-requires-clause-within
read-requires-clause-within c =
    let w = c.self.inside in
    let k = searched w.design.now w.rules.now w.cell w.made in
    let there = (words_there k w.budget w.levels w.store w.last c.in-Some.last c.in-Some-fault.fault c.in-Some.is c.in-Some-fault.is c.self.invariant.last).1 in
    omega (arith, there, c.if-var-last.false)

pub returns : goal.returns
returns c =
    let w = c.self.inside in
    subst (λ (v : View). eqb c.read.result 1 ≡ bits_of (bits_of_last v.last) c.args.var) c.self.view_is
    (ap (λ n. eqb n 1) c.read.ensures
    ∙ sym (bit_is_read w.store w.last c.in-Some.last c.in-Some-fault.fault c.args.var c.in-Some.is c.in-Some-fault.is c.if-var-last.false))
