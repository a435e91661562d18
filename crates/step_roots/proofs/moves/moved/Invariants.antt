use Rattle.std.proofs.Common.{length}
use Rattle.step_roots.proofs.MovedLaws.{IsMoving}
use Rattle.step_roots.proofs.moves.moved.Given as goal

abbrev pub invariant-variables : goal.invariant-variables
invariant-variables l = IsMoving l.variables l.bit l.fn.f l.fn.store l.left l.reached l.store

abbrev pub decreases-variables : goal.decreases-variables
decreases-variables l = length l.left
