use Rattle.std.proofs.Common.{◌≡◌, take}
use Rattle.names.proofs.set.copies_of_keys.Given as goal

-- the names so far
abbrev pub invariant-loop-key : goal.invariant-loop-key
invariant-loop-key l = l.texts ≡ take l.key-index l.keys
