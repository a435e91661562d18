use Rattle.std.proofs.Common.{◌≤◌, take}
use Rattle.verity_run.specs.Classes.{IsOfTask}
use Rattle.verity_run.specs.Known.{IsKnown}
use Rattle.verity_run.specs.Reports.{PutsReport}
use Rattle.whole_cells.specs.Kept.{AreKept}
use Rattle.verity_run.proofs.report.report_known.Given as goal

-- the lines of the cells so far were put, and what is known then is true
abbrev pub invariant-loop-number : goal.invariant-loop-number
invariant-loop-number g l =
    PutsReport (IsOfTask l.task l.ready.inputs) l.fn.known.facts.items (take l.number-index l.ready.cells) l.status l.known.facts.items (g.O.Sink.written l.fn.out) (g.O.Sink.written l.out)
    × (g.O.Sink.faults l.fn.out ≤ g.O.Sink.faults l.out)
    × IsKnown l.ready.inputs.design l.ready.inputs.blif l.ready.inputs.rules l.known.facts.items
    × AreKept l.ready.inputs.design l.ready.inputs.blif l.ready.inputs.rules l.known.facts.items l.known.kept
