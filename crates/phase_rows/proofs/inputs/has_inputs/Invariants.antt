use Rattle.std.proofs.Common.{ℕ, ◌<◌}
use Rattle.phase_rows.specs.Given.{HasInput}
use Rattle.phase_rows.proofs.inputs.has_inputs.Given as goal

-- the words so far fit
abbrev pub invariant-loop-net : goal.invariant-loop-net
invariant-loop-net l = (n : ℕ) → n < l.net → HasInput l.circuit l.sources l.store l.roots n
