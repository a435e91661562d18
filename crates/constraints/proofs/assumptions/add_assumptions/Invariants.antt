use Rattle.std.proofs.Common.{length}
use Rattle.bdd_core.specs.Store.{function_of}
use Rattle.constraints.specs.Handles.{handle_in}
use Rattle.constraints.specs.Obliged.{IsSoFar, assume_holds, assume_operations}
use Rattle.constraints.proofs.assumptions.add_assumptions.Given as goal

-- the lines so far, and those that are left
abbrev pub invariant-rules : goal.invariant-rules
invariant-rules l =
    IsSoFar (assume_holds l.fn.store (handle_in l.fn.store.words l.ports) l.cell l.phase) (assume_operations l.cell l.phase) (handle_in l.fn.store.words l.ports)
    (function_of l.fn.store l.fn.start) l.fn.rules l.rest l.fn.store l.store l.all

abbrev pub decreases-rules : goal.decreases-rules
decreases-rules l = length l.rest
