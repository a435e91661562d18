use Rattle.std.proofs.Common.{◌≡◌, drop}
use Rattle.mode_lines.specs.Points.{lines_hold}
use Rattle.mode_lines.proofs.meeting.lines_hold.Given as goal

-- all hold so far
abbrev pub invariant-loop-rule : goal.invariant-loop-rule
invariant-loop-rule l = lines_hold l.fn.at l.fn.bits (drop l.rule-index l.rules) ≡ lines_hold l.fn.at l.fn.bits l.rules
