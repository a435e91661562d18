use Rattle.std.proofs.Common.{◌≡◌, length}
use Rattle.mode_lines.specs.Points.{picks}
use Rattle.vrt_model.specs.Held.{bit_of}
use Rattle.mode_lines.proofs.bits.bit_of.Given as goal

-- not among the variables so far
abbrev pub invariant-variables : goal.invariant-variables
invariant-variables l = bit_of (picks l.sought) l.sources_left l.bits_left ≡ bit_of (picks l.sought) l.fn.sources l.fn.bits

abbrev pub decreases-variables : goal.decreases-variables
decreases-variables l = length l.sources_left
