use Rattle.std.proofs.Common.{◌≡◌, ℕ, [], Some, drop, map, take}
use Rattle.arrival_lines.specs.RisingNames.{fault_from, input_from}
use Rattle.arrival_lines.proofs.rising.add_places.Given as goal

-- no fault so far, and the places so far
abbrev pub invariant-loop-at : goal.invariant-loop-at
invariant-loop-at l = record {
  fault : fault_from (input_from 0 l.ports.names.now l.ports.roles.now) (take l.at l.names) (drop l.at l.names) ≡ fault_from (input_from 0 l.ports.names.now l.ports.roles.now) [] l.names;
  places : map (input_from 0 l.ports.names.now l.ports.roles.now) (take l.at l.names) ≡ map (λ (place : ℕ). Some place) l.places;
}
