use Rattle.std.proofs.Common.{length, ◌-◌, ◌≡◌, ◌≤◌, ◌++◌, drop, take}
use Rattle.blif_reader.specs.Cards.{uncommented}
use Rattle.blif_reader.proofs.cards.without_comment.Given as goal

-- no comment has begun so far
abbrev pub invariant-bytes : goal.invariant-bytes
invariant-bytes l = (l.at ≤ length l.line) × (take l.at l.line ++ uncommented (drop l.at l.line) ≡ uncommented l.line)

abbrev pub decreases-bytes : goal.decreases-bytes
decreases-bytes l = length l.line - l.at
