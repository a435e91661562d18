use Rattle.std.proofs.Common.{◌≡◌}
use Rattle.circuit_faults.specs.Steps.{part_list}
use Rattle.circuit_faults.proofs.part_lists.part_steps.Given as goal

-- the steps of the parts so far
abbrev pub invariant-loop-number : goal.invariant-loop-number
invariant-loop-number l = l.steps ≡ part_list l.number
