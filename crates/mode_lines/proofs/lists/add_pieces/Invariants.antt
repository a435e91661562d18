use Rattle.std.proofs.Common.{◌≡◌, length}
use Rattle.mode_lines.specs.Lists.{ahead, cut, items_of}
use Rattle.mode_lines.proofs.lists.add_pieces.Given as goal

-- the items so far, and those of the pieces that are left
abbrev pub invariant-cuts : goal.invariant-cuts
invariant-cuts l = ahead l.items (items_of (cut l.rest)) ≡ ahead l.fn.items (items_of (cut l.fn.list))

abbrev pub decreases-cuts : goal.decreases-cuts
decreases-cuts l = length l.rest
