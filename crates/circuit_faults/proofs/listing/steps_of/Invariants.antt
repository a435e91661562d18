use Rattle.std.proofs.Common.{◌≡◌, map, take}
use Rattle.circuit_faults.specs.Keys.{step_of_key}
use Rattle.circuit_faults.proofs.listing.steps_of.Given as goal

-- the steps of the first keys
abbrev pub invariant-loop-key : goal.invariant-loop-key
invariant-loop-key l = l.steps ≡ map step_of_key (take l.key-index l.keys)
