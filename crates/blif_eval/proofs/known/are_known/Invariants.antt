use Rattle.std.proofs.Common.{◌≡◌, ◌-◌, drop, length}
use Rattle.blif_eval.specs.KnownBits.{all_entries}
use Rattle.blif_eval.proofs.known.are_known.Given as goal

-- the answer is that for the rest
abbrev pub invariant-on : goal.invariant-on
invariant-on l = all_entries l.bits (drop l.at l.signals) ≡ all_entries l.bits l.signals

-- what is left
abbrev pub decreases-on : goal.decreases-on
decreases-on l = length l.signals - l.at
