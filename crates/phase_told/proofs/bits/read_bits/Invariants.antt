use Rattle.std.proofs.Common.{◌≡◌}
use Rattle.phase_told.specs.Valuations.{valuation_in}
use Rattle.phase_told.proofs.bits.read_bits.Given as goal

-- a bit for each word so far
abbrev pub invariant-loop-x : goal.invariant-loop-x
invariant-loop-x l = l.bits ≡ valuation_in l.store l.words l.x
