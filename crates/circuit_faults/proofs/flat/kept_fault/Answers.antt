use Rattle.circuit_faults.proofs.FlatWholes.{flat_table, flat_wired}
use Rattle.circuit_faults.proofs.flat.kept_fault.Goals as goal

pub wired_kept-requires-clause-wholes : goal.wired_kept-requires-clause-wholes
wired_kept-requires-clause-wholes c = flat_table c.args.circuit.now c.requires.circuit

pub wired_kept-requires-clause-wired : goal.wired_kept-requires-clause-wired
wired_kept-requires-clause-wired c = flat_wired c.args.circuit.now c.requires.circuit
