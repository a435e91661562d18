use Rattle.std.proofs.Common.{◌≡◌, ◌==◌, drop}
use Rattle.std.specs.List.{list_any}
use Rattle.text_lines.proofs.bytes.has_byte.Given as goal

-- none so far
abbrev pub invariant-loop-b : goal.invariant-loop-b
invariant-loop-b l = list_any (λ b. b == l.byte) (drop l.b-index l.text) ≡ list_any (λ b. b == l.byte) l.text
