use Rattle.std.proofs.Common.{length}
use Rattle.output_joins.proofs.Joining.{IsJoining}
use Rattle.output_joins.proofs.join.join_outputs.Given as goal

-- the outputs so far, and what is left
abbrev pub invariant-outputs : goal.invariant-outputs
invariant-outputs l = IsJoining l.care l.gates l.fn.wishes l.left l.fn.store l.fn.functions.items l.store l.functions.items

abbrev pub decreases-outputs : goal.decreases-outputs
decreases-outputs l = length l.left
