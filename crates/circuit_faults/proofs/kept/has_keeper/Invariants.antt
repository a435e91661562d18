use Rattle.std.proofs.Common.{◌≡◌, drop}
use Rattle.std.specs.List.{list_any}
use Rattle.vrt_model.specs.declared.circuit.Device.{Device}
use Rattle.circuit_faults.proofs.kept.has_keeper.Given as goal

-- none so far
abbrev pub invariant-loop-device : goal.invariant-loop-device
invariant-loop-device l = list_any (λ (d : Device). d.keeper) (drop l.device-index l.circuit.devices) ≡ list_any (λ (d : Device). d.keeper) l.circuit.devices
