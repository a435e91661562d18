use Rattle.std.proofs.Common.{◌≡◌, drop}
use Rattle.std.specs.List.{list_any}
use Rattle.rules_reader.specs.Refused.{is_bad_bit}
use Rattle.rules_reader.proofs.conditions.any_has_no_bit.Given as goal

-- none so far
abbrev pub invariant-loop-b : goal.invariant-loop-b
invariant-loop-b l = list_any is_bad_bit (drop l.b-index l.bits) ≡ list_any is_bad_bit l.bits
