use Rattle.std.proofs.Common.{◌≡◌, [], replicate}
use Rattle.hierarchy.proofs.held.no_names.Given as goal

abbrev pub invariant-loop-at : goal.invariant-loop-at
invariant-loop-at l = l.sets.items ≡ replicate l._at []
