use Rattle.std.proofs.Common.{◌≡◌, ◌+◌, drop}
use Rattle.std.specs.List.{position_or_len}
use Rattle.text_lines.specs.Bytes.{is_blank}
use Rattle.text_lines.proofs.bytes.first_blank.Given as goal

-- none so far
abbrev pub invariant-loop-at : goal.invariant-loop-at
invariant-loop-at l = l.at + position_or_len is_blank (drop l.at l.text) ≡ position_or_len is_blank l.text
