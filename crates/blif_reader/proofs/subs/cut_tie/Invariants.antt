use Rattle.std.proofs.Common.{◌≡◌, ◌≤◌, ◌++◌, ◌-◌, length, drop, take}
use Rattle.text_lines.specs.Groups.{up_to}
use Rattle.blif_reader.specs.Models.{behind_equals, is_equals}
use Rattle.blif_reader.proofs.subs.cut_tie.Given as goal

-- no `=` so far
abbrev pub invariant-bytes : goal.invariant-bytes
invariant-bytes l =
    (l.at ≤ length l.word) × (take l.at l.word ++ up_to is_equals (drop l.at l.word) ≡ up_to is_equals l.word) × (behind_equals (drop l.at l.word) ≡ behind_equals l.word)

abbrev pub decreases-bytes : goal.decreases-bytes
decreases-bytes l = length l.word - l.at
