use Rattle.std.proofs.Common.{◌≡◌, take}
use Rattle.whole_circuits.proofs.copies.copy_covers.Given as goal

-- the items so far
abbrev pub invariant-loop-cover : goal.invariant-loop-cover
invariant-loop-cover l = l.copy ≡ take l.cover-index l.covers
