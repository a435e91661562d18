use Rattle.std.proofs.Common.{◌≡◌, ◌++◌, map, take}
use Rattle.blif_flat.specs.Network.{dc_name}
use Rattle.blif_flat.proofs.network.add_signals.Given as goal

abbrev pub invariant-loop-name : goal.invariant-loop-name
invariant-loop-name l = l.signals ≡ l.initial.signals ++ map dc_name (take l.name-index l.name-items)
