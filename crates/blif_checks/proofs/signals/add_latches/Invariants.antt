use Rattle.std.proofs.Common.{◌≡◌, flat_map, take}
use Rattle.names.specs.Names.{with_names}
use Rattle.vrt_model.specs.FlatBlif.{latch_signals}
use Rattle.blif_checks.proofs.signals.add_latches.Given as goal

-- the names so far
abbrev pub invariant-loop-latch : goal.invariant-loop-latch
invariant-loop-latch l = l.names ≡ with_names l.initial.names (flat_map latch_signals (take l.latch-index l.latches))
