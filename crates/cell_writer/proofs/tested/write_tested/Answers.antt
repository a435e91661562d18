use Rattle.std.proofs.Common.{sym, ◌∙◌}
use Rattle.cell_writer.proofs.TestLaws.{clock_same, hold_same, is_free, names_same}
use Rattle.cell_writer.specs.Writing.{written_of}
use Rattle.model_writer.specs.Refused.{interface_names}
use Rattle.vrt_model.specs.FlatBlif.{model_at}
use Rattle.cell_writer.proofs.tested.write_tested.Goals as goal

pub write_functions-requires-clause-free : goal.write_functions-requires-clause-free
write_functions-requires-clause-free c m is =
    is_free m c.args.w is c.requires.holds c.requires.ports
    (sym (names_same m c.args.w is (interface_names c.names_of.result) c.args.clocks.now c.names_of.ensures c.requires.clocks) ∙ sym c.in-None.ensures)

pub returns-in-Some : goal.returns-in-Some
returns-in-Some c m is =
    c.refuse_name.ensures (written_of c.args.w m) c.args.w.blif.now (model_at c.args.w.blif.now m) c.args.budget (sym (hold_same m c.args.w is) ∙ c.requires.holds)
    (sym (clock_same m c.args.w is) ∙ c.requires.ports)
    (sym (names_same m c.args.w is (interface_names c.names_of.result) c.args.clocks.now c.names_of.ensures c.requires.clocks) ∙ sym c.in-Some.ensures)
