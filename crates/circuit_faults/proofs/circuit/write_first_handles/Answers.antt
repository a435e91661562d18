use Rattle.std.proofs.Common.{◌≤◌, arith, sym, subst}
use Rattle.bdd_core.specs.Store.{Diagrams}
use Rattle.circuit_faults.proofs.circuit.write_first_handles.Goals as goal

pub read-root-requires-clause-live : goal.read-root-requires-clause-live
read-root-requires-clause-live c =
    (subst (λ (d : Diagrams). d.own ≤ c.args.roots.start) (sym c.loop-n.invariant.rest) c.requires.roots.0.0, omega (arith, c.requires.roots.0.1, c.loop-n.invariant.len))

pub write-requires-clause-live : goal.write-requires-clause-live
write-requires-clause-live c =
    (subst (λ (d : Diagrams). d.own ≤ c.args.gates.start) (sym c.loop-n.invariant.rest) c.requires.gates.0, omega (arith, c.requires.gates.1, c.loop-n.invariant.len))
