use Rattle.std.proofs.Common.{◌≡◌, take}
use Rattle.whole_circuits.proofs.copies.copy_texts.Given as goal

-- the items so far
abbrev pub invariant-loop-text : goal.invariant-loop-text
invariant-loop-text l = l.copy ≡ take l.text-index l.texts
