use Rattle.std.proofs.Common.{take}
use Rattle.hierarchy.specs.Held.{AreHeld}
use Rattle.hierarchy.proofs.held.add_all_held.Given as goal

-- the nets of the rules so far
abbrev pub invariant-loop-rule : goal.invariant-loop-rule
invariant-loop-rule l = AreHeld l.cells (take l.rule-index l.rules) l.sets.items
