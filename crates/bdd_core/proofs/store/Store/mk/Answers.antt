use Rattle.bdd_core.specs.Diagram.{choice, bit_of, meaning}
use Rattle.bdd_core.proofs.MakesLaws.{exact_of}
use Rattle.bdd_core.proofs.store.Store.mk.Goals as goal

pub returns-clause-exact : goal.returns-clause-exact
returns-clause-exact c = exact_of _ _ (choice (bit_of c.args.var.0) (meaning c.args.self.now.nodes c.args.hi.0) (meaning c.args.self.now.nodes c.args.lo.0)) c.join.result c.sound.ensures.sound.ends c.join.ensures
