use Rattle.std.proofs.Common.{◌≡◌, length}
use Rattle.known_nets.specs.Incidence.{HasEnds}
use Rattle.known_nets.proofs.incidence.devices_by_end.Given as goal

abbrev pub invariant-loop-at : goal.invariant-loop-at
invariant-loop-at l = record {
  len : length l.ends.items ≡ length l.circuit.nets;
  ends : HasEnds l.circuit l.at l.ends.items;
}
