use Rattle.std.proofs.Common.{◌≡◌, map, take}
use Rattle.whole_circuits.specs.Ends.{settled_by}
use Rattle.whole_circuits.proofs.ends.settled_pins.Given as goal

-- the pins so far
abbrev pub invariant-loop-pin : goal.invariant-loop-pin
invariant-loop-pin l = l.made ≡ map (settled_by l.ends) (take l.pin-index l.pins)
