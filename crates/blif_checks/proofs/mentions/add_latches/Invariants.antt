use Rattle.std.proofs.Common.{◌≡◌, ◌++◌, map, take, flat_map}
use Rattle.blif_checks.specs.Mentions.{latch_mentions, numbered}
use Rattle.blif_checks.proofs.mentions.add_latches.Given as goal

-- the mentions so far
abbrev pub invariant-loop-latch : goal.invariant-loop-latch
invariant-loop-latch l = l.list ≡ l.initial.list ++ map (numbered l.names) (flat_map latch_mentions (take l.latch-index l.latches))
