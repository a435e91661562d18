use Rattle.std.proofs.Common.{◌≡◌, ◌++◌, drop, take}
use Rattle.mode_lines.specs.Lists.{bits_at, bits_from}
use Rattle.mode_lines.proofs.valuations.bits_at.Given as goal

-- the bits so far, and those of the names that are left
abbrev pub invariant-loop-at : goal.invariant-loop-at
invariant-loop-at l = l.bits ++ bits_from (take l.at l.names) (drop l.at l.names) l.items ≡ bits_at l.names l.items
