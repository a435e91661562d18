use Rattle.std.proofs.Common.{◌≡◌, ◌++◌, map, take}
use Rattle.vrt_model.specs.Models.{on_line}
use Rattle.blif_checks.specs.Mentions.{numbered}
use Rattle.blif_checks.proofs.mentions.add_all.Given as goal

-- the mentions so far
abbrev pub invariant-loop-signal : goal.invariant-loop-signal
invariant-loop-signal l = l.list ≡ l.initial.list ++ map (numbered l.names) (map (on_line l.line) (take l.signal-index l.signals))
