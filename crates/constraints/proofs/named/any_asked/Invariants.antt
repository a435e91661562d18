use Rattle.std.proofs.Common.{◌≡◌, drop}
use Rattle.std.specs.List.{list_any}
use Rattle.constraints.specs.Obliged.{is_asked}
use Rattle.constraints.proofs.named.any_asked.Given as goal

-- none so far
abbrev pub invariant-loop-rule : goal.invariant-loop-rule
invariant-loop-rule l = list_any (is_asked l.cell l.phase) (drop l.rule-index l.rules) ≡ list_any (is_asked l.cell l.phase) l.rules
