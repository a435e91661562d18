use Rattle.std.proofs.Common.{◌≡◌, drop}
use Rattle.mode_lines.specs.Lists.{bit_in}
use Rattle.mode_lines.proofs.valuations.bit_in.Given as goal

-- none so far
abbrev pub invariant-loop-item : goal.invariant-loop-item
invariant-loop-item l = bit_in (drop l.item-index l.items) l.name ≡ bit_in l.items l.name
