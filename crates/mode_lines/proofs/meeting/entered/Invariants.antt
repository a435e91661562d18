use Rattle.std.proofs.Common.{◌≡◌, drop}
use Rattle.mode_lines.specs.Points.{entered}
use Rattle.mode_lines.proofs.meeting.entered.Given as goal

-- none so far
abbrev pub invariant-loop-enter : goal.invariant-loop-enter
invariant-loop-enter l = entered (drop l.enter-index l.enters) l.phase ≡ entered l.enters l.phase
