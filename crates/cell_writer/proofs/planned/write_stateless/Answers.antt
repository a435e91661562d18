use Rattle.std.proofs.Common.{ap, ap₂, sym, ◌∙◌}
use Rattle.cell_writer.proofs.TestLaws.{clock_same, hold_same}
use Rattle.cell_writer.specs.Refused.{clock_among}
use Rattle.cell_writer.specs.Writing.{written_of}
use Rattle.vrt_model.specs.FlatBlif.{model_at}
use Rattle.vrt_model.specs.declared.pairing.Pairing.{Pairing}
use Rattle.cell_writer.proofs.planned.write_stateless.Goals as goal

pub returns-in-Some : goal.returns-in-Some
returns-in-Some c m is =
    c.refuse_clock.ensures (written_of c.args.w m) c.args.w.blif.now (model_at c.args.w.blif.now m) c.args.budget (sym (hold_same m c.args.w is) ∙ c.requires.holds)
    (sym (clock_same m c.args.w is) ∙ sym (c.in-Some.ensures ∙ ap₂ clock_among c.ports_of.ensures (c.as_slice-roles.ensures ∙ ap (λ (p : Pairing). p.ports) c.pairing.ensures)))
