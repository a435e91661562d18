use Rattle.std.proofs.Common.{◌≡◌, ◌++◌, length}
use Rattle.whole_circuits.specs.Pins.{driven_by}
use Rattle.whole_circuits.proofs.pins.driven_pins.Given as goal

-- the pins so far with those of the ports that are left
abbrev pub invariant-ports : goal.invariant-ports
invariant-ports l = l.pins ++ driven_by l.drives l.before l.ports_left l.nets_left ≡ driven_by l.fn.drives 0 l.fn.ports l.fn.nets

abbrev pub decreases-ports : goal.decreases-ports
decreases-ports l = length l.ports_left
