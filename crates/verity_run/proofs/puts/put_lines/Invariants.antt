use Rattle.std.proofs.Common.{◌≤◌, take}
use Rattle.std.specs.Io.KnownBytes.{Appends}
use Rattle.verity_run.specs.Messages.{joined}
use Rattle.verity_run.proofs.puts.put_lines.Given as goal

-- the lines so far were put
abbrev pub invariant-loop-line : goal.invariant-loop-line
invariant-loop-line g l =
    Appends (g.O.Sink.written l.fn.out) (g.O.Sink.written l.out) (joined (take l.line-index l.lines)) × (g.O.Sink.faults l.fn.out ≤ g.O.Sink.faults l.out)
