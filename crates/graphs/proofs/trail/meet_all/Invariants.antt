use Rattle.std.proofs.Common.{take}
use Rattle.graphs.specs.Trails.{HasMet}
use Rattle.graphs.proofs.trail.meet_all.Given as goal

-- the numbers so far are met
abbrev pub invariant-loop-number : goal.invariant-loop-number
invariant-loop-number l = HasMet l.initial.places.items l.places.items l.initial.met l.met (take l.number-index l.numbers) l.next
