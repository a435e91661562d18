use Rattle.bdd_core.specs.Diagram.{Function, IsSame, choice, meaning}
use Rattle.bdd_core.proofs.Meaning.{meaning_zero}
use Rattle.bdd_core.proofs.MakesLaws.{makes_same}
use Rattle.vrt_model.specs.declared.design.Kind.TheVariants.{P}
use Rattle.path_fixpoint.specs.Passed.{gated}
use Rattle.path_fixpoint.proofs.Passing.{blocked_choice}
use Rattle.path_fixpoint.proofs.steps.through.Goals as goal

pub returns-in-P : goal.returns-in-P
returns-in-P c =
    let ns = c.args.store.now.nodes in
    let whole : Function = choice (meaning ns c.args.gate.0) (meaning ns 0) (meaning ns c.args.signal.0) in
    let goal_of : Function = gated P (meaning ns c.args.gate.0) (meaning ns c.args.signal.0) in
    let same : IsSame whole goal_of = λ v. rw (meaning_zero ns v) (blocked_choice (meaning ns c.args.gate.0 v) (meaning ns c.args.signal.0 v)) in
    rw c.in-P.is (makes_same c.args.store.now c.ite.new.self whole goal_of c.ite.result same c.ite.ensures.makes)
