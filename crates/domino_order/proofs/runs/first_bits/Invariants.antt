use Rattle.std.proofs.Common.{◌≡◌, take}
use Rattle.domino_order.proofs.runs.first_bits.Given as goal

-- those so far
abbrev pub invariant-loop-bit : goal.invariant-loop-bit
invariant-loop-bit l = l.bits ≡ take l.bit-index l.bit-items
