use Rattle.std.proofs.Common.{ap, subst, sym, ◌∙◌}
use Rattle.cell_writer.proofs.TestLaws.{hold_same}
use Rattle.cell_writer.specs.Refused.{first_hold}
use Rattle.cell_writer.specs.Writing.{written_of}
use Rattle.vrt_model.specs.Circuits.{IsCircuit}
use Rattle.vrt_model.specs.FlatBlif.{model_at}
use Rattle.cell_writer.proofs.planned.write_planned.Goals as goal

pub held_net-requires : goal.held_net-requires
held_net-requires c = subst IsCircuit (sym c.circuit.ensures) c.requires.writing.1.planned.flattened.circuit

pub write_stateless-requires-clause-holds : goal.write_stateless-requires-clause-holds
write_stateless-requires-clause-holds c = sym (c.in-None.ensures ∙ ap first_hold c.circuit.ensures)

pub returns-in-Some : goal.returns-in-Some
returns-in-Some c m is =
    c.refuse_hold.ensures (written_of c.args.w m) c.args.w.blif.now (model_at c.args.w.blif.now m) c.args.budget
    (sym (hold_same m c.args.w is) ∙ sym (c.in-Some.ensures ∙ ap first_hold c.circuit.ensures))
