use Rattle.std.proofs.Common.{◌≡◌, take}
use Rattle.phase_told.proofs.places.copies_of.Given as goal

-- the copies so far
abbrev pub invariant-loop-text : goal.invariant-loop-text
invariant-loop-text l = l.copies ≡ take l.text-index l.texts
