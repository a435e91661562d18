use Rattle.std.proofs.Common.{take}
use Rattle.verity_run.specs.Arrivals.{IsFoundSoFar}
use Rattle.verity_run.specs.Known.{IsKnown}
use Rattle.whole_cells.specs.Kept.{AreKept}
use Rattle.verity_run.proofs.arrivals.judge_all.Given as goal

-- what was judged so far, and what is known then is true
abbrev pub invariant-loop-number : goal.invariant-loop-number
invariant-loop-number l =
    IsFoundSoFar l.ready.inputs.design l.ready.inputs.blif l.ready.inputs.rules l.budget (take l.number-index l.ready.cells) l.known.facts.items l.cell l.found
    × IsKnown l.ready.inputs.design l.ready.inputs.blif l.ready.inputs.rules l.known.facts.items
    × AreKept l.ready.inputs.design l.ready.inputs.blif l.ready.inputs.rules l.known.facts.items l.known.kept
