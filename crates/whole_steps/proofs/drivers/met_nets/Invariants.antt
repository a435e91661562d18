use Rattle.whole_steps.specs.Tables.{AreMet}
use Rattle.whole_steps.proofs.drivers.met_nets.Given as goal

abbrev pub invariant-loop-number : goal.invariant-loop-number
invariant-loop-number l = AreMet l.circuit l.number l.met.items
