use Rattle.bdd_core.specs.Diagram.{Function, IsSame, meaning, choice}
use Rattle.bdd_core.proofs.Meaning.{meaning_zero}
use Rattle.bdd_core.proofs.MakesLaws.{makes_same, exact_of}
use Rattle.bdd_ops.specs.Ops.{and_of}
use Rattle.bdd_ops.proofs.BooleanLaws.{and_choice}
use Rattle.bdd_ops.proofs.boolean.and.Goals as goal

pub returns-clause-makes : goal.returns-clause-makes
returns-clause-makes c =
    let ns = c.args.store.now.nodes in
    let whole : Function = choice (meaning ns c.args.f.0) (meaning ns c.args.g.0) (meaning ns 0) in
    let goal_of : Function = and_of (meaning ns c.args.f.0) (meaning ns c.args.g.0) in
    let same : IsSame whole goal_of = λ v. rw (meaning_zero ns v) (and_choice (meaning ns c.args.f.0 v) (meaning ns c.args.g.0 v)) in
    makes_same _ _ whole goal_of c.ite.result same c.ite.ensures.makes

pub returns-clause-exact : goal.returns-clause-exact
returns-clause-exact c =
    let ns = c.args.store.now.nodes in
    let whole : Function = choice (meaning ns c.args.f.0) (meaning ns c.args.g.0) (meaning ns 0) in
    let goal_of : Function = and_of (meaning ns c.args.f.0) (meaning ns c.args.g.0) in
    let same : IsSame whole goal_of = λ v. rw (meaning_zero ns v) (and_choice (meaning ns c.args.f.0 v) (meaning ns c.args.g.0 v)) in
    exact_of _ _ goal_of c.ite.result c.sound.ensures.sound.ends (makes_same _ _ whole goal_of c.ite.result same c.ite.ensures.makes)
