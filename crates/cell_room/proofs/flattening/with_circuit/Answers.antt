-- The circuit of the call is the flat one.
use Rattle.cell_room.proofs.StepLaws.{circuit_grouped}
use Rattle.flatten.proofs.HoldNames.{names_there}
use Rattle.cell_room.proofs.flattening.with_circuit.Goals as goal

pub unrolled_circuit-requires-clause-netlist : goal.unrolled_circuit-requires-clause-netlist
unrolled_circuit-requires-clause-netlist c = c.requires.inputs.netlist

pub unrolled_circuit-requires-clause-ruled : goal.unrolled_circuit-requires-clause-ruled
unrolled_circuit-requires-clause-ruled c = c.requires.inputs.valid

pub unrolled_circuit-requires-clause-there : goal.unrolled_circuit-requires-clause-there
unrolled_circuit-requires-clause-there c = c.requires.inputs.there

pub unrolled_circuit-requires-clause-indexed : goal.unrolled_circuit-requires-clause-indexed
unrolled_circuit-requires-clause-indexed c = c.requires.prepared.index_is

pub unrolled_circuit-requires-clause-tables : goal.unrolled_circuit-requires-clause-tables
unrolled_circuit-requires-clause-tables c = c.requires.prepared.nets_are

pub unrolled_circuit-requires-clause-names : goal.unrolled_circuit-requires-clause-names
unrolled_circuit-requires-clause-names c = names_there c.args.design.now c.args.rules.now c.requires.inputs.ordered.names

pub returns-in-Ok : goal.returns-in-Ok
returns-in-Ok c =
    circuit_grouped c.args.design.now c.args.rules.now c.args.cell c.args.pairing c.in-Ok.circuit c.args.model c.grouped.result c.in-Ok.ensures c.grouped.ensures
