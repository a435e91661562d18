use Rattle.std.proofs.Common.{◌≡◌, ◌++◌, length}
use Rattle.written_lines.specs.Lines.{lines_in}
use Rattle.written_lines.proofs.cuts.add_lines.Given as goal

-- the lines so far, and those of the rest
abbrev pub invariant-cuts : goal.invariant-cuts
invariant-cuts l = l.lines ++ lines_in l.rest ≡ l.fn.lines ++ lines_in l.fn.text

abbrev pub decreases-cuts : goal.decreases-cuts
decreases-cuts l = length l.rest
