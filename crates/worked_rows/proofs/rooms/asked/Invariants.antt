use Rattle.std.proofs.Common.{◌<◌, length}
use Rattle.worked_rows.proofs.rooms.asked.Given as goal

-- the phase is there
abbrev pub invariant-loop-again : goal.invariant-loop-again
invariant-loop-again l = l.fn.phase < length l.workspace.rules.phases
