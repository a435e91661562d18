use Rattle.std.proofs.Common.{◌≡◌, ◌++◌, length, map}
use Rattle.vrt_model.specs.Models.{on_lines}
use Rattle.blif_checks.specs.Mentions.{numbered}
use Rattle.blif_checks.proofs.mentions.add_listed.Given as goal

-- the mentions so far, and those that are left
abbrev pub invariant-signals : goal.invariant-signals
invariant-signals l = l.list ++ map (numbered l.names) (on_lines l.signals_left l.lines_left) ≡ l.initial.list ++ map (numbered l.names) (on_lines l.fn.signals l.fn.lines)

abbrev pub decreases-signals : goal.decreases-signals
decreases-signals l = length l.signals_left
