use Rattle.std.proofs.Common.{◌≡◌, drop}
use Rattle.flatten.specs.NetTables.{with_nets}
use Rattle.rule_index.specs.Tables.{supply_in}
use Rattle.flatten.proofs.net_names.add_ports.Given as goal

-- the names so far, with those of the rest
abbrev pub invariant-loop-port : goal.invariant-loop-port
invariant-loop-port l =
    with_nets (supply_in l.supplies) l.names (drop l.port-index l.ports) ≡ with_nets (supply_in l.supplies) l.fn.names l.ports
