use Rattle.std.proofs.Common.{◌≡◌, ◌≤◌, ◌++◌, ◌-◌, length, drop, take}
use Rattle.text_lines.specs.Groups.{up_to}
use Rattle.spice_reader.specs.Netlist.{ends_cell}
use Rattle.spice_reader.proofs.cells.before_ends.Given as goal

-- no `.ends` so far
abbrev pub invariant-cards : goal.invariant-cards
invariant-cards l = (l.at ≤ length l.cards) × (take l.at l.cards ++ up_to ends_cell (drop l.at l.cards) ≡ up_to ends_cell l.cards)

abbrev pub decreases-cards : goal.decreases-cards
decreases-cards l = length l.cards - l.at
