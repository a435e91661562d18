use Rattle.std.proofs.Common.{subst, sym}
use Rattle.circuit_faults.proofs.FlatWholes.{flat_table}
use Rattle.vrt_model.specs.Circuits.{IsFlat}
use Rattle.cell_writer.proofs.writing.compared_of.Goals as goal

pub returns-clause-wholes : goal.returns-clause-wholes
returns-clause-wholes c = flat_table c.circuit.result.now (subst IsFlat (sym c.circuit.ensures) c.requires.flat)
