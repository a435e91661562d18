use Rattle.std.proofs.Common.{ℕ, sym}
use Rattle.bdd_core.specs.Diagram.{Function, IsSame, meaning, choice, bit_of}
use Rattle.bdd_core.proofs.Choice.{cond_self}
use Rattle.bdd_core.proofs.Meaning.{meaning_zero, meaning_one}
use Rattle.bdd_core.proofs.MakesLaws.{makes_same, exact_of}
use Rattle.bdd_core.proofs.store.Store.bit.Goals as goal

pub returns-clause-makes : goal.returns-clause-makes
returns-clause-makes c =
    let ns = c.args.self.now.nodes in
    let x : ℕ = c.args.var.0 in
    let made : Function = choice (bit_of x) (meaning ns 1) (meaning ns 0) in
    let same : IsSame made (bit_of x) = λ v. rw (meaning_one ns v, meaning_zero ns v) (sym (cond_self (v x))) in
    makes_same _ _ made (bit_of x) c.join.result same c.join.ensures

pub returns-clause-exact : goal.returns-clause-exact
returns-clause-exact c =
    let ns = c.args.self.now.nodes in
    let x : ℕ = c.args.var.0 in
    let made : Function = choice (bit_of x) (meaning ns 1) (meaning ns 0) in
    let same : IsSame made (bit_of x) = λ v. rw (meaning_one ns v, meaning_zero ns v) (sym (cond_self (v x))) in
    exact_of _ _ (bit_of x) c.join.result c.sound.ensures.sound.ends (makes_same _ _ made (bit_of x) c.join.result same c.join.ensures)
