use Rattle.std.proofs.Common.{◌≡◌, ◌++◌, length}
use Rattle.flatten.specs.NetTables.{port_nets_in}
use Rattle.rule_index.specs.Tables.{supply_in}
use Rattle.flatten.proofs.nets.add_ports.Given as goal

-- the nets so far, with those of the ports that are left
abbrev pub invariant-ports : goal.invariant-ports
invariant-ports l =
    l.nets ++ port_nets_in (supply_in l.supplies) l.ports_left l.roles_left ≡ l.fn.nets ++ port_nets_in (supply_in l.supplies) l.fn.ports l.fn.roles

abbrev pub decreases-ports : goal.decreases-ports
decreases-ports l = length l.ports_left
