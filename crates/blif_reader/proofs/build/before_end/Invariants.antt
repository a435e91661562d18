use Rattle.std.proofs.Common.{◌≡◌, ◌≤◌, ◌++◌, ◌-◌, length, drop, take}
use Rattle.text_lines.specs.Groups.{up_to}
use Rattle.blif_reader.specs.Models.{ends_model}
use Rattle.blif_reader.proofs.build.before_end.Given as goal

-- no end so far
abbrev pub invariant-cards : goal.invariant-cards
invariant-cards l = (l.at ≤ length l.cards) × (take l.at l.cards ++ up_to ends_model (drop l.at l.cards) ≡ up_to ends_model l.cards)

abbrev pub decreases-cards : goal.decreases-cards
decreases-cards l = length l.cards - l.at
