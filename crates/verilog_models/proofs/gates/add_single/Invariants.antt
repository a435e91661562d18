use Rattle.std.proofs.Common.{◌≡◌, take}
use Rattle.verilog_models.proofs.gates.add_single.Given as goal

abbrev pub invariant-loop-signal : goal.invariant-loop-signal
invariant-loop-signal l = l.inputs ≡ take l.signal-index l.signals
