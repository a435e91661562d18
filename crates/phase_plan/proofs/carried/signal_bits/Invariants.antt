use Rattle.phase_plan.specs.Gives.{HasCarried}
use Rattle.phase_plan.proofs.carried.signal_bits.Given as goal

-- the signals so far have their bits
abbrev pub invariant-loop-signal : goal.invariant-loop-signal
invariant-loop-signal l = HasCarried l.phase l.clocked l.signal l.known
