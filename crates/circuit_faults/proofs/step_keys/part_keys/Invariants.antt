use Rattle.std.proofs.Common.{◌≡◌}
use Rattle.circuit_faults.specs.Keys.{part_keys}
use Rattle.circuit_faults.proofs.step_keys.part_keys.Given as goal

-- the keys of the first parts
abbrev pub invariant-loop-number : goal.invariant-loop-number
invariant-loop-number l = l.keys.items ≡ part_keys l.parts l.number
