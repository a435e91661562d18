use Rattle.std.proofs.Common.{◌≡◌, ◌≤◌, ◌++◌, ◌-◌, length, drop, take}
use Rattle.text_lines.specs.Groups.{up_to}
use Rattle.blif_reader.specs.Models.{is_dotted}
use Rattle.blif_reader.proofs.covers.rows_before.Given as goal

-- rows so far
abbrev pub invariant-cards : goal.invariant-cards
invariant-cards l = (l.at ≤ length l.cards) × (take l.at l.cards ++ up_to is_dotted (drop l.at l.cards) ≡ up_to is_dotted l.cards)

abbrev pub decreases-cards : goal.decreases-cards
decreases-cards l = length l.cards - l.at
