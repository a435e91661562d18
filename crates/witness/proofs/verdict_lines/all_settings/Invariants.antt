use Rattle.std.proofs.Common.{◌≡◌, ◌++◌, length}
use Rattle.vrt_model.specs.VerdictText.{settings}
use Rattle.witness.proofs.verdict_lines.all_settings.Given as goal

-- the variables so far, and those that are left
abbrev pub invariant-variables : goal.invariant-variables
invariant-variables l = l.found ++ settings l.names_left l.bits_left ≡ settings l.fn.names l.fn.bits

abbrev pub decreases-variables : goal.decreases-variables
decreases-variables l = length l.names_left
