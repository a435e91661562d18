use Rattle.std.proofs.Common.{◌≡◌, length}
use Rattle.known_nets.specs.Incidence.{HasGates}
use Rattle.known_nets.proofs.incidence.devices_by_gate.Given as goal

abbrev pub invariant-loop-at : goal.invariant-loop-at
invariant-loop-at l = record {
  len : length l.gates.items ≡ length l.circuit.nets;
  gates : HasGates l.circuit l.at l.gates.items;
}
