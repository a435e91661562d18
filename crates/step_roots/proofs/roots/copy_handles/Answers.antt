use Rattle.std.proofs.Common.{◌≤◌, arith, sym, subst}
use Rattle.bdd_core.specs.Store.{Diagrams}
use Rattle.step_roots.proofs.roots.copy_handles.Goals as goal

pub read-word-requires-clause-live : goal.read-word-requires-clause-live
read-word-requires-clause-live c =
    (subst (λ (d : Diagrams). d.own ≤ c.args.from.start) (sym c.loop-k.invariant.rest) c.requires.from.0.0, omega (arith, c.requires.from.0.1, c.loop-k.invariant.len))

pub write-requires-clause-live : goal.write-requires-clause-live
write-requires-clause-live c =
    (subst (λ (d : Diagrams). d.own ≤ c.args.to.start) (sym c.loop-k.invariant.rest) c.requires.to.0.0, omega (arith, c.requires.to.0.1, c.loop-k.invariant.len))
