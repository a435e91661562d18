use Rattle.std.proofs.Common.{◌≡◌, ◌≤◌, ◌+◌, ◌++◌, map, length, vec_len}
use Rattle.std.specs.List.{enumerate_from}
use Rattle.text_lines.specs.Lines.{lines_of, text_lines}
use Rattle.text_lines.proofs.lines.numbered_lines.Given as goal

-- the lines so far, and those of the rest
abbrev pub invariant-cuts : goal.invariant-cuts
invariant-cuts l =
    (map (λ x. (x.number, x.bytes.now)) l.lines.items ++ enumerate_from l.number (text_lines l.rest) ≡ lines_of l.fn.text)
    × (vec_len l.lines + length l.rest ≤ length l.fn.text) × (l.number ≡ vec_len l.lines + 1)

abbrev pub decreases-cuts : goal.decreases-cuts
decreases-cuts l = length l.rest
