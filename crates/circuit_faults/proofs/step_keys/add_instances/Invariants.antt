use Rattle.std.proofs.Common.{◌≡◌, ◌++◌}
use Rattle.circuit_faults.specs.Keys.{instance_keys}
use Rattle.circuit_faults.proofs.step_keys.add_instances.Given as goal

-- the keys of the first instances were added
abbrev pub invariant-loop-at : goal.invariant-loop-at
invariant-loop-at l =
    l.keys.items ≡ l.fn.keys.items ++ instance_keys l.fn.ranked.design.now l.fn.ranked.rules.now l.fn.ranked.circuit.now l.fn.ranked.phase l.fn.ranked.ranks.now l.at
