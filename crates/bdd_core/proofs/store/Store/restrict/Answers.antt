use Rattle.bdd_core.specs.Diagram.{fixed, meaning}
use Rattle.bdd_core.proofs.MakesLaws.{exact_of}
use Rattle.bdd_core.proofs.store.Store.restrict.Goals as goal

pub returns-clause-exact : goal.returns-clause-exact
returns-clause-exact c = exact_of _ _ (fixed (meaning c.args.self.now.nodes c.args.f.0) c.args.var.0 c.args.value) c.fix.result c.sound.ensures.sound.ends c.fix.ensures
