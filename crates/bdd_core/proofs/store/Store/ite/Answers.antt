use Rattle.bdd_core.specs.Diagram.{Function}
use Rattle.bdd_core.proofs.Choice.{ite_of}
use Rattle.bdd_core.proofs.MakesLaws.{exact_of, makes_same}
use Rattle.bdd_core.proofs.store.Store.ite.Goals as goal

pub choose-requires : goal.choose-requires
choose-requires c = c.in_order.ensures.within _ c.sound.ensures.sound.ends c.requires.0 c.requires.1 c.requires.2

pub returns-clause-makes : goal.returns-clause-makes
returns-clause-makes c =
    let ns = c.args.self.now.nodes in
    let asked : Function = ite_of ns c.in_order.result.0.0 c.in_order.result.1.0 c.in_order.result.2.0 in
    makes_same _ _ asked (ite_of ns c.args.f.0 c.args.g.0 c.args.h.0) c.choose.result (c.in_order.ensures.same ns) c.choose.ensures

pub returns-clause-exact : goal.returns-clause-exact
returns-clause-exact c =
    let ns = c.args.self.now.nodes in
    let asked : Function = ite_of ns c.in_order.result.0.0 c.in_order.result.1.0 c.in_order.result.2.0 in
    let whole : Function = ite_of ns c.args.f.0 c.args.g.0 c.args.h.0 in
    let made = makes_same _ _ asked whole c.choose.result (c.in_order.ensures.same ns) c.choose.ensures in
    exact_of _ _ whole c.choose.result c.sound.ensures.sound.ends made
