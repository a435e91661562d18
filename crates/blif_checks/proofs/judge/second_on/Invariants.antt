use Rattle.std.proofs.Common.{◌≡◌, drop}
use Rattle.std.specs.Prelude.{find}
use Rattle.blif_checks.specs.Least.{passes_on}
use Rattle.blif_checks.specs.Notes.{is_second}
use Rattle.blif_checks.proofs.judge.second_on.Given as goal

-- none so far
abbrev pub invariant-loop-mention : goal.invariant-loop-mention
invariant-loop-mention l = find (passes_on (is_second l.notes) l.line) (drop l.mention-index l.mentions) ≡ find (passes_on (is_second l.notes) l.line) l.mentions
