use Rattle.std.proofs.Common.{◌≤◌, length}
use Rattle.whole_cells.specs.Links.{ArePhasesLinked}
use Rattle.whole_cells.proofs.links.all_links.Given as goal

-- those of the phases so far
abbrev pub invariant-loop-at : goal.invariant-loop-at
invariant-loop-at l = (l.at ≤ length l.rules.phases) × ArePhasesLinked l.design l.rules l.cell l.own l.at l.all
