use Rattle.std.proofs.Common.{◌≡◌, ◌++◌, length}
use Rattle.mode_lines.specs.Points.{held_from, setting_in}
use Rattle.mode_lines.proofs.bits.held_bits.Given as goal

-- the bits so far, and those of the holds that are left
abbrev pub invariant-holds : goal.invariant-holds
invariant-holds l = l.held ++ held_from (setting_in l.fn.at l.fn.bits).held (length l.held) l.rest ≡ held_from (setting_in l.fn.at l.fn.bits).held 0 l.fn.at.circuit.now.holds

abbrev pub decreases-holds : goal.decreases-holds
decreases-holds l = length l.rest
