use Rattle.step_roots.proofs.ComparedLaws.{IsBehind}
use Rattle.step_roots.proofs.below.compared.Given as goal

abbrev pub invariant-left : goal.invariant-left
invariant-left l = IsBehind l.lesser l.variables l.bits l.left l.rest l.fn.store l.store

abbrev pub decreases-left : goal.decreases-left
decreases-left l = l.left
