use Rattle.std.proofs.Common.{◌≡◌, drop}
use Rattle.std.specs.List.{list_all}
use Rattle.text_lines.specs.Bytes.{is_text_byte}
use Rattle.text_lines.proofs.bytes.is_text_line.Given as goal

-- none so far
abbrev pub invariant-loop-b : goal.invariant-loop-b
invariant-loop-b l = list_all is_text_byte (drop l.b-index l.line) ≡ list_all is_text_byte l.line
