use Rattle.std.proofs.Common.{◌≡◌, map, take}
use Rattle.whole_circuits.specs.MovedHolds.{hold_by}
use Rattle.whole_circuits.proofs.holds.holds_by.Given as goal

-- the holds so far
abbrev pub invariant-loop-hold : goal.invariant-loop-hold
invariant-loop-hold l = l.found ≡ map (hold_by l.moved) (take l.hold-index l.holds)
