use Rattle.std.proofs.Common.{◌+◌, ◌-◌, length}
use Rattle.known_nets.proofs.SpreadLaws.{GoesOn}
use Rattle.known_nets.specs.Spreads.{headroom}
use Rattle.known_nets.proofs.spread.spread_from.Given as goal

-- the nets before the place are passed on, or stand behind it once more
abbrev pub invariant-on : goal.invariant-on
invariant-on l = GoesOn l.over.spread l.over.circuit.now l.over.known.now l.over.levels.now l.at l.initial.amounts.table.items l.amounts.table.items l.initial.amounts.met.items l.amounts.met.items

-- a net is met only where an amount has risen
abbrev pub decreases-on : goal.decreases-on
decreases-on l = headroom l.amounts.table.items + (length l.amounts.met.items - l.at)
