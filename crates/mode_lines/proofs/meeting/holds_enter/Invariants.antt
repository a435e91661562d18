use Rattle.std.proofs.Common.{◌≡◌, drop}
use Rattle.mode_lines.specs.Points.{holds_enter, setting_in}
use Rattle.mode_lines.proofs.meeting.holds_enter.Given as goal

-- all have their values so far
abbrev pub invariant-loop-place : goal.invariant-loop-place
invariant-loop-place l =
    holds_enter l.fn.at.phase (setting_in l.fn.at l.fn.bits).held l.place (drop l.place l.fn.at.circuit.now.holds) ≡ holds_enter l.fn.at.phase (setting_in l.fn.at l.fn.bits).held 0 l.fn.at.circuit.now.holds
