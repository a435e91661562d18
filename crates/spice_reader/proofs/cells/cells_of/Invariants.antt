use Rattle.std.proofs.Common.{◌≡◌, ◌≤◌, ◌++◌, ◌-◌, length, drop, map}
use Rattle.text_lines.specs.Groups.{groups}
use Rattle.spice_reader.specs.Netlist.{begins_cell, cell_of, ends_cell}
use Rattle.spice_reader.proofs.cells.cells_of.Given as goal

-- the cells so far, and those of the rest
abbrev pub invariant-cards : goal.invariant-cards
invariant-cards l =
    (l.at ≤ length l.cards) × (l.cells ++ map cell_of (groups begins_cell ends_cell (drop l.at l.cards)) ≡ map cell_of (groups begins_cell ends_cell l.cards))

abbrev pub decreases-cards : goal.decreases-cards
decreases-cards l = length l.cards - l.at
