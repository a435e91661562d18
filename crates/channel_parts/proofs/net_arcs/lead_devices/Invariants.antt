use Rattle.channel_parts.specs.NetGraphs.{IsDeviceArcBelow}
use Rattle.known_nets.specs.Placed.{Adds}
use Rattle.channel_parts.proofs.net_arcs.lead_devices.Given as goal

abbrev pub invariant-loop-device : goal.invariant-loop-device
invariant-loop-device l = Adds (IsDeviceArcBelow l.circuit l.known l.least l.device-index) l.initial.graph.items l.graph.items
