use Rattle.std.proofs.Common.{◌≡◌, take}
use Rattle.channel_parts.proofs.known_bits.copied.Given as goal

-- the bits so far
abbrev pub invariant-loop-bit : goal.invariant-loop-bit
invariant-loop-bit l = l.copy ≡ take l.bit-index l.known
