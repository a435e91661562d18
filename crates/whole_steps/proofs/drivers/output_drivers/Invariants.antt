use Rattle.whole_steps.specs.Tables.{AreNoted, outputs_before}
use Rattle.whole_steps.proofs.drivers.output_drivers.Given as goal

abbrev pub invariant-loop-number : goal.invariant-loop-number
invariant-loop-number l = AreNoted l.circuit (outputs_before l.circuit l.number) l.drivers.items
