use Rattle.std.proofs.Common.{take}
use Rattle.blif_checks.specs.Least.{IsLeastLine, is_bad}
use Rattle.blif_checks.proofs.judge.least_line.Given as goal

-- the least line so far
abbrev pub invariant-loop-mention : goal.invariant-loop-mention
invariant-loop-mention l = IsLeastLine (is_bad l.notes) (take l.mention-index l.mentions) l.least
