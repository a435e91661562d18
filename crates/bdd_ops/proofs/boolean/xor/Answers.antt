use Rattle.std.proofs.Common.{Err, refl, length, ◌<◌}
use Rattle.bdd_core.specs.Diagram.{Function, IsSame, meaning, choice}
use Rattle.bdd_core.specs.Store.{Diagrams, Makes}
use Rattle.bdd_core.proofs.Growth.{grows_keeps}
use Rattle.bdd_core.proofs.MakesLaws.{makes_same}
use Rattle.bdd_ops.specs.Ops.{not_of, xor_of}
use Rattle.bdd_ops.proofs.BooleanLaws.{made_both, spent_first, exact_both, few_both, few_first}
use Rattle.bdd_ops.proofs.boolean.xor.Goals as goal

pub returns-in-Err-clause-makes : goal.returns-in-Err-clause-makes
returns-in-Err-clause-makes c =
    let old : Diagrams = c.args.store.now in
    let first : Function = not_of (meaning old.nodes c.args.g.0) in
    spent_first old c.not.new.store first _ c.in-Err.spent c.in-Err.ensures.makes

pub returns-in-Err-clause-exact : goal.returns-in-Err-clause-exact
returns-in-Err-clause-exact c =
    let old : Diagrams = c.args.store.now in
    let new : Diagrams = c.not.new.store in
    let first : Function = not_of (meaning old.nodes c.args.g.0) in
    let goal_of : Function = xor_of (meaning old.nodes c.args.f.0) (meaning old.nodes c.args.g.0) in
    let two = c.sound.ensures.sound.ends in
    exact_both old new first goal_of two (Err c.in-Err.spent) (few_first old new first goal_of c.in-Err.spent two c.in-Err.ensures.makes)
    (spent_first old new first goal_of c.in-Err.spent c.in-Err.ensures.makes)

pub returns-clause-makes : goal.returns-clause-makes
returns-clause-makes c =
    let old : Diagrams = c.args.store.now in
    let mid : Diagrams = c.not.new.store in
    let first : Function = not_of (meaning old.nodes c.args.g.0) in
    let whole : Function = choice (meaning mid.nodes c.args.f.0) (meaning mid.nodes c.in-Ok.other.0) (meaning mid.nodes c.args.g.0) in
    let goal_of : Function = xor_of (meaning old.nodes c.args.f.0) (meaning old.nodes c.args.g.0) in
    let a = c.in-Ok.ensures.makes in
    let f_in : c.args.f.0 < length old.nodes = c.requires.0 in
    let g_in : c.args.g.0 < length old.nodes = c.requires.1 in
    let same : IsSame whole goal_of =
    λ v. rw (grows_keeps old.nodes mid.nodes first a.grows c.args.f.0 f_in v, grows_keeps old.nodes mid.nodes first a.grows c.args.g.0 g_in v, a.ok.same v) refl in
    made_both old mid c.ite.new.self first goal_of c.in-Ok.other c.ite.result a
    (makes_same mid c.ite.new.self whole goal_of c.ite.result same c.ite.ensures.makes)

pub returns-clause-exact : goal.returns-clause-exact
returns-clause-exact c =
    let old : Diagrams = c.args.store.now in
    let mid : Diagrams = c.not.new.store in
    let new : Diagrams = c.ite.new.self in
    let first : Function = not_of (meaning old.nodes c.args.g.0) in
    let whole : Function = choice (meaning mid.nodes c.args.f.0) (meaning mid.nodes c.in-Ok.other.0) (meaning mid.nodes c.args.g.0) in
    let goal_of : Function = xor_of (meaning old.nodes c.args.f.0) (meaning old.nodes c.args.g.0) in
    let a = c.in-Ok.ensures.makes in
    let f_in : c.args.f.0 < length old.nodes = c.requires.0 in
    let g_in : c.args.g.0 < length old.nodes = c.requires.1 in
    let same : IsSame whole goal_of =
    λ v. rw (grows_keeps old.nodes mid.nodes first a.grows c.args.f.0 f_in v, grows_keeps old.nodes mid.nodes first a.grows c.args.g.0 g_in v, a.ok.same v) refl in
    let b : Makes mid new goal_of c.ite.result = makes_same mid new whole goal_of c.ite.result same c.ite.ensures.makes in
    let two = c.sound.ensures.sound.ends in
    exact_both old new first goal_of two c.ite.result (few_both old mid new first goal_of c.in-Ok.other c.ite.result two a b)
    (made_both old mid new first goal_of c.in-Ok.other c.ite.result a b)
