use Rattle.std.proofs.Common.{◌≡◌, ◌++◌, length, map}
use Rattle.vrt_model.specs.Models.{on_lines}
use Rattle.blif_checks.specs.Drivers.{others}
use Rattle.blif_checks.specs.Mentions.{numbered}
use Rattle.blif_checks.proofs.drivers.add_clocks.Given as goal

-- the mentions so far, and those that are left
abbrev pub invariant-clocks : goal.invariant-clocks
invariant-clocks l = l.list ++ map (numbered l.names) (others l.inputs (on_lines l.clocks_left l.lines_left)) ≡ l.initial.list ++ map (numbered l.names) (others l.inputs (on_lines l.fn.clocks l.fn.lines))

abbrev pub decreases-clocks : goal.decreases-clocks
decreases-clocks l = length l.clocks_left
