-- What is tested is what stands in the way.
use Rattle.flatten.proofs.circuit.flat_with.Goals as goal

pub structured_circuit-requires-clause-structured : goal.structured_circuit-requires-clause-structured
structured_circuit-requires-clause-structured c = c.in-Ok.ensures
