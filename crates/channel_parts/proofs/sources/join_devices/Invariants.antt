use Rattle.channel_parts.specs.NetGraphs.{ArcsBelow}
use Rattle.channel_parts.specs.Sources.{IsBetween}
use Rattle.known_nets.specs.Placed.{Adds}
use Rattle.channel_parts.proofs.sources.join_devices.Given as goal

abbrev pub invariant-loop-device : goal.invariant-loop-device
invariant-loop-device l = Adds (ArcsBelow l.circuit.devices (IsBetween l.circuit l.known l.least) l.device-index) l.initial.sources.items l.sources.items
