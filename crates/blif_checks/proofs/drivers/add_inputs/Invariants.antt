use Rattle.std.proofs.Common.{◌≡◌, ◌++◌, length, map}
use Rattle.vrt_model.specs.Models.{on_lines}
use Rattle.blif_checks.specs.Drivers.{at_earlier}
use Rattle.blif_checks.specs.Mentions.{numbered}
use Rattle.blif_checks.proofs.drivers.add_inputs.Given as goal

-- the mentions so far, and those that are left
abbrev pub invariant-inputs : goal.invariant-inputs
invariant-inputs l = l.list ++ map (numbered l.names) (map (at_earlier (on_lines l.clocks l.clock_lines)) (on_lines l.inputs_left l.lines_left)) ≡ l.initial.list ++ map (numbered l.names) (map (at_earlier (on_lines l.clocks l.clock_lines)) (on_lines l.fn.inputs l.fn.lines))

abbrev pub decreases-inputs : goal.decreases-inputs
decreases-inputs l = length l.inputs_left
