use Rattle.std.proofs.Common.{sym, subst}
use Rattle.bdd_core.specs.Diagram.{bit_of}
use Rattle.bdd_core.specs.Store.{Means, function_of}
use Rattle.bdd_ops.proofs.CountingLaws.{counts_made}
use Rattle.bdd_ops.proofs.WithinLaws.{within_bit}
use Rattle.phase_open.proofs.RootLaws.{constant_means}
use Rattle.phase_open.specs.Given.{root_by}
use Rattle.vrt_model.specs.declared.circuit.NetKind.{NetKind}
use Rattle.phase_open.proofs.roots.root_of.Goals as goal

pub returns-in-Supply-clause-is : goal.returns-in-Supply-clause-is
returns-in-Supply-clause-is c =
    let had = function_of c.args.store.now c.args.had in
    subst (λ (k : NetKind). Means c.args.store.now c.constant.result (root_by c.args.phase.now k c.args.variable had)) (sym c.in-Supply.is)
    (constant_means c.args.store.now c.constant.result c.in-Supply.value c.sound.ensures.sound c.constant.ensures)

pub returns-in-Clock-clause-is : goal.returns-in-Clock-clause-is
returns-in-Clock-clause-is c =
    let had = function_of c.args.store.now c.args.had in
    subst (λ (k : NetKind). Means c.args.store.now c.constant-in-Clock.result (root_by c.args.phase.now k c.args.variable had)) (sym c.in-Clock.is)
    (subst (λ b. Means c.args.store.now c.constant-in-Clock.result (λ v. b)) c.bit_of_clock.ensures
    (constant_means c.args.store.now c.constant-in-Clock.result c.bit_of_clock.result c.sound.ensures.sound c.constant-in-Clock.ensures))

pub returns-in-Input-clause-counts : goal.returns-in-Input-clause-counts
returns-in-Input-clause-counts c u below =
    counts_made u c.args.store.now c.bit.new.self c.sound.ensures.sound.ends (bit_of c.args.variable) c.bit.result c.bit.ensures.makes (within_bit u c.args.variable (below c.in-Input.is))
