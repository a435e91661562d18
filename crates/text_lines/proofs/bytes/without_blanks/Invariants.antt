use Rattle.std.proofs.Common.{◌≡◌, length}
use Rattle.text_lines.specs.Bytes.{without_blanks}
use Rattle.text_lines.proofs.bytes.without_blanks.Given as goal

-- blanks so far
abbrev pub invariant-blanks : goal.invariant-blanks
invariant-blanks l = without_blanks l.rest ≡ without_blanks l.fn.line

abbrev pub decreases-blanks : goal.decreases-blanks
decreases-blanks l = length l.rest
