use Rattle.std.proofs.Common.{◌≡◌, take}
use Rattle.text_lines.specs.Bytes.{lowered}
use Rattle.text_lines.proofs.words.lower.Given as goal

-- the bytes so far
abbrev pub invariant-loop-b : goal.invariant-loop-b
invariant-loop-b l = l.text ≡ lowered (take l.b-index l.bytes)
