use Rattle.std.proofs.Common.{◌≡◌, map, take}
use Rattle.channel_parts.specs.ClassTests.{line_by}
use Rattle.channel_parts.proofs.class_lines.lines_of.Given as goal

-- the lines so far
abbrev pub invariant-loop-part : goal.invariant-loop-part
invariant-loop-part l = l.lines ≡ map (line_by l.circuit l.held l.tables) (take l.part-index l.parts)
