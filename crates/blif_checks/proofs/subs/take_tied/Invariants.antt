use Rattle.std.proofs.Common.{◌≡◌, drop}
use Rattle.names.specs.Names.{first_missing}
use Rattle.blif_checks.proofs.subs.take_tied.Given as goal

-- each signal so far is tied
abbrev pub invariant-loop-signal : goal.invariant-loop-signal
invariant-loop-signal l = first_missing l.tied (drop l.signal-index l.signals) ≡ first_missing l.tied l.signals
