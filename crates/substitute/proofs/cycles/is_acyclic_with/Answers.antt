use Rattle.std.proofs.Common.{subst}
use Rattle.substitution_laws.proofs.WholeRanges.{trials_are_wired}
use Rattle.vrt_model.specs.Circuits.{IsCircuit}
use Rattle.substitute.proofs.cycles.is_acyclic_with.Goals as goal

pub are_acyclic-requires : goal.are_acyclic-requires
are_acyclic-requires c =
    let t = c.requires.tried in
    let by = t.3.by in
    trials_are_wired t.0 t.1 t.2 c.in_ok-circuit.circuit t.3.trial (subst IsCircuit by.flat_is by.formed) (c.in_ok-circuit.ensures t.0 t.1 t.2 by)

pub returns : goal.returns
returns c cut blif facts by = (c.in_ok-circuit.circuit, c.in_ok-circuit.ensures cut blif facts by, c.in_ok-free.ensures)
