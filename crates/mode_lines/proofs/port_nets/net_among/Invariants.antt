use Rattle.std.proofs.Common.{◌≡◌, ◌+◌, ◌≤◌, length}
use Rattle.constraints.specs.Handles.{port_net_from}
use Rattle.mode_lines.proofs.port_nets.net_among.Given as goal

-- the port is not among those so far
abbrev pub invariant-ports : goal.invariant-ports
invariant-ports l = record {
  from : port_net_from l.rules l.next l.rest l.name ≡ port_net_from l.rules 2 l.names l.name;
  low : l.next + length l.rest ≤ length l.names + 2;
}

abbrev pub decreases-ports : goal.decreases-ports
decreases-ports l = length l.rest
