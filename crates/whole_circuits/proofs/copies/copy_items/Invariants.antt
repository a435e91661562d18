use Rattle.std.proofs.Common.{◌≡◌, take}
use Rattle.whole_circuits.proofs.copies.copy_items.Given as goal

-- the items so far
abbrev pub invariant-loop-item : goal.invariant-loop-item
invariant-loop-item g l = l.copy ≡ take l.item-index l.items
