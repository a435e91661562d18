use Rattle.std.proofs.Common.{◌≡◌, ◌≤◌, ◌++◌, ◌-◌, true, length, drop, take}
use Rattle.text_lines.specs.Fronts.{up_to_words}
use Rattle.text_lines.proofs.words.front.Given as goal

-- no word too many so far
abbrev pub invariant-bytes : goal.invariant-bytes
invariant-bytes l = (l.at ≤ length l.line) × (take l.at l.line ++ up_to_words l.left l.is_between (drop l.at l.line) ≡ up_to_words l.fn.count true l.line)

abbrev pub decreases-bytes : goal.decreases-bytes
decreases-bytes l = length l.line - l.at
