use Rattle.std.proofs.Common.{subst}
use Rattle.bdd_core.specs.Diagram.{IsReduced}
use Rattle.bdd_core.specs.Store.{Diagrams}
use Rattle.bdd_core.proofs.MakesLaws.{canonical_of}
use Rattle.bdd_core.proofs.store.Store.sound.Goals as goal

pub returns-clause-canonical : goal.returns-clause-canonical
returns-clause-canonical c =
    let d : Diagrams = c.args.self.now in
    let sound : IsReduced d.vars d.nodes = subst (λ z. IsReduced z.vars z.nodes) c.self.view_is c.self.invariant.reduced in
    canonical_of d sound
