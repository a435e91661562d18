use Rattle.std.proofs.Common.{take}
use Rattle.nesting.specs.Reached.{HasMet}
use Rattle.port_links.proofs.reaching.meet_all.Given as goal

-- the numbers so far are met
abbrev pub invariant-loop-number : goal.invariant-loop-number
invariant-loop-number l = HasMet l.initial.marks.items l.marks.items l.initial.met l.met (take l.number-index l.numbers)
