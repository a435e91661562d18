use Rattle.std.proofs.Common.{◌≡◌, ◌++◌, map, take}
use Rattle.vrt_model.specs.Models.{on_line}
use Rattle.vrt_model.specs.declared.blif.LatchLine.{LatchLine}
use Rattle.blif_checks.specs.Mentions.{numbered}
use Rattle.blif_checks.proofs.drivers.add_latches.Given as goal

-- the mentions so far
abbrev pub invariant-loop-latch : goal.invariant-loop-latch
invariant-loop-latch l = l.list ≡ l.initial.list ++ map (numbered l.names) (map (λ (l : LatchLine). on_line l.line l.output) (take l.latch-index l.latches))
