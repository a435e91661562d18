use Rattle.std.proofs.Common.{◌≡◌, length}
use Rattle.port_drives.specs.Ports.{AreLonePorts}
use Rattle.port_drives.proofs.lone.lone_ports.Given as goal

-- the ports that are alone in the phases so far
abbrev pub invariant-loop-plan : goal.invariant-loop-plan
invariant-loop-plan l = record {
  len : length l.all.items ≡ length l.outputs;
  are : AreLonePorts l.circuit l.plans l.outputs l.plan-index l.all.items;
}
