use Rattle.std.proofs.Common.{◌≡◌, take}
use Rattle.text_lines.specs.Bytes.{lowered}
use Rattle.rules_expression.proofs.tokens.lower.Given as goal

-- the bytes so far
abbrev pub invariant-loop-b : goal.invariant-loop-b
invariant-loop-b l = l.text ≡ lowered (take l.b-index l.name)
