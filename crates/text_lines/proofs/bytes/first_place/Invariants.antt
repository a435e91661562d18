use Rattle.std.proofs.Common.{◌≡◌, ◌+◌, ◌==◌, drop}
use Rattle.std.specs.List.{position_or_len}
use Rattle.text_lines.proofs.bytes.first_place.Given as goal

-- none so far
abbrev pub invariant-loop-at : goal.invariant-loop-at
invariant-loop-at l = l.at + position_or_len (λ b. b == l.byte) (drop l.at l.text) ≡ position_or_len (λ b. b == l.byte) l.text
