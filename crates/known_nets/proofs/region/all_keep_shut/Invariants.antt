use Rattle.std.proofs.Common.{ℕ, ◌<◌}
use Rattle.known_nets.specs.Regions.{KeepsShut}
use Rattle.vrt_model.specs.Lists.{At}
use Rattle.vrt_model.specs.declared.circuit.Device.{Device}
use Rattle.known_nets.proofs.region.all_keep_shut.Given as goal

abbrev pub invariant-loop-number : goal.invariant-loop-number
invariant-loop-number l = (i : ℕ) → i < l.number-index → (k : ℕ) (d : Device) → At l.numbers i k → At l.circuit.devices k d → KeepsShut l.circuit l.known l.net d
