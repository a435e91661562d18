use Rattle.std.proofs.Common.{◌≡◌, length}
use Rattle.vrt_model.specs.ModelArcs.{carried_bits}
use Rattle.phase_plan.proofs.carried.carried_bit.Given as goal

-- none of the clocks before is that of the signal
abbrev pub invariant-clocks : goal.invariant-clocks
invariant-clocks l = carried_bits l.phase l.rest l.signal ≡ carried_bits l.phase l.fn.clocked l.signal

abbrev pub decreases-clocks : goal.decreases-clocks
decreases-clocks l = length l.rest
