use Rattle.std.proofs.Common.{◌≡◌, take}
use Rattle.witness.specs.Views.{filled_list}
use Rattle.witness.proofs.viewing.filled.Given as goal

-- the bits so far
abbrev pub invariant-loop-bit : goal.invariant-loop-bit
invariant-loop-bit l = l.reading.items ≡ filled_list (take l.bit-index l.bits)
