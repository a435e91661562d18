use Rattle.std.proofs.Common.{◌≡◌, ◌++◌, map, take}
use Rattle.bdd_ops.specs.Ops.{bits_of}
use Rattle.domino_order.proofs.runs.with_arrivals.Given as goal

-- those of the arrivals so far
abbrev pub invariant-loop-variable : goal.invariant-loop-variable
invariant-loop-variable l = l.bits ≡ l.fn.end ++ map (bits_of l.begin) (take l.variable-index l.arrivals)
