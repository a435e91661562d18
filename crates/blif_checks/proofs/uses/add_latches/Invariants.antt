use Rattle.std.proofs.Common.{◌≡◌, ◌++◌, map, take, flat_map}
use Rattle.blif_checks.specs.Drivers.{latch_uses}
use Rattle.blif_checks.specs.Mentions.{numbered}
use Rattle.blif_checks.proofs.uses.add_latches.Given as goal

-- the mentions so far
abbrev pub invariant-loop-latch : goal.invariant-loop-latch
invariant-loop-latch l = l.list ≡ l.initial.list ++ map (numbered l.names) (flat_map latch_uses (take l.latch-index l.latches))
