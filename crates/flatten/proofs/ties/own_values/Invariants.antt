use Rattle.std.proofs.Common.{◌≡◌, map, take}
use Rattle.rule_index.specs.Tables.{supply_in}
use Rattle.flatten.proofs.ties.own_values.Given as goal

-- the ports so far
abbrev pub invariant-loop-port : goal.invariant-loop-port
invariant-loop-port l = l.values ≡ map (supply_in l.supplies) (take l.port-index l.ports)
