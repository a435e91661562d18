use Rattle.std.proofs.Common.{◌≡◌, false, map, take}
use Rattle.rules_reader.proofs.build.all_phase.Given as goal

-- the clocks so far
abbrev pub invariant-loop-clock : goal.invariant-loop-clock
invariant-loop-clock l = l.bits ≡ map (λ c. false) (take l._clock-index l.clocks)
