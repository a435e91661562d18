use Rattle.std.proofs.Common.{◌≡◌, take}
use Rattle.std.specs.Str.{str_to_ascii_lowercase}
use Rattle.rule_index.proofs.lower_names.lowered_name.Given as goal

-- the bytes so far
abbrev pub invariant-loop-byte : goal.invariant-loop-byte
invariant-loop-byte l = l.low ≡ str_to_ascii_lowercase (take l.byte-index l.name)
