use Rattle.std.proofs.Common.{◌≡◌, ◌++◌, length}
use Rattle.whole_circuits.specs.Pins.{pins_by}
use Rattle.whole_circuits.proofs.pins.input_pins.Given as goal

-- the pins so far with those of the ports that are left
abbrev pub invariant-ports : goal.invariant-ports
invariant-ports l = l.pins ++ pins_by l.observed l.ports_left l.nets_left ≡ pins_by l.fn.observed l.fn.ports l.fn.nets

abbrev pub decreases-ports : goal.decreases-ports
decreases-ports l = length l.ports_left
