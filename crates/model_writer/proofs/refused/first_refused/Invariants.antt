use Rattle.std.proofs.Common.{◌≡◌, drop}
use Rattle.std.specs.List.{find}
use Rattle.model_writer.specs.Refused.{is_refused}
use Rattle.model_writer.proofs.refused.first_refused.Given as goal

-- none so far
abbrev pub invariant-loop-name : goal.invariant-loop-name
invariant-loop-name l = find is_refused (drop l.name-index l.names) ≡ find is_refused l.names
