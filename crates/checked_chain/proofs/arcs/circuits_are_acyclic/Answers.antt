use Rattle.checked_chain.proofs.LinkLaws.{circuits_are_acyclic}
use Rattle.checked_chain.proofs.arcs.circuits_are_acyclic.Goals as goal

pub returns : goal.returns
returns c = circuits_are_acyclic
