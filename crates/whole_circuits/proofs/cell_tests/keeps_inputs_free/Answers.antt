use Rattle.std.proofs.Common.{◌∙◌}
use Rattle.whole_circuits.proofs.CellLaws.{ports_are_free}
use Rattle.whole_circuits.proofs.cell_tests.keeps_inputs_free.Goals as goal

pub returns : goal.returns
returns c k circuit ports = c.are_ports_free.ensures ∙ ports_are_free k c.args.circuit.now c.as_slice.result.now c.args.ports.now circuit c.as_slice.ensures ports
