use Rattle.std.proofs.Common.{◌≡◌, ◌++◌, drop}
use Rattle.mode_lines.specs.Points.{inputs_from, setting_in}
use Rattle.mode_lines.proofs.bits.input_bits.Given as goal

-- the bits so far, and those of the nets that are left
abbrev pub invariant-loop-net : goal.invariant-loop-net
invariant-loop-net l = l.inputs ++ inputs_from (setting_in l.fn.at l.fn.bits).inputs l.net (drop l.net l.fn.at.circuit.now.nets) ≡ inputs_from (setting_in l.fn.at l.fn.bits).inputs 0 l.fn.at.circuit.now.nets
