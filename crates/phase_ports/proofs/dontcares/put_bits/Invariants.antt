use Rattle.std.proofs.Common.{length}
use Rattle.phase_ports.proofs.DontCareLaws.{IsPutting}
use Rattle.phase_ports.proofs.dontcares.put_bits.Given as goal

-- the bits so far, and those of the don't cares that are left
abbrev pub invariant-dontcares : goal.invariant-dontcares
invariant-dontcares l = IsPutting l.fn.dontcares l.fn.bits.items l.rest l.bits.items

abbrev pub decreases-dontcares : goal.decreases-dontcares
decreases-dontcares l = length l.rest
