use Rattle.std.proofs.Common.{◌≡◌, drop, take}
use Rattle.mode_lines.specs.Lists.{fault_at, fault_from, names_of}
use Rattle.mode_lines.proofs.valuations.check_items.Given as goal

-- no fault so far
abbrev pub invariant-loop-at : goal.invariant-loop-at
invariant-loop-at l = fault_from l.names (names_of (take l.at l.items)) (drop l.at l.items) ≡ fault_at l.names l.items
