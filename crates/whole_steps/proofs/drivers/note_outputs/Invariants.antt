use Rattle.whole_steps.proofs.DriverLaws.{outputs_to}
use Rattle.whole_steps.specs.Tables.{AreNoted}
use Rattle.whole_steps.proofs.drivers.note_outputs.Given as goal

abbrev pub invariant-loop-output : goal.invariant-loop-output
invariant-loop-output l = AreNoted l.circuit (outputs_to l.circuit l.fn.number l.whole l.output) l.drivers.items
