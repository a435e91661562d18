use Rattle.model_writer.specs.Shapes.{shaped_model}
use Rattle.model_writer.proofs.TextLaws.{as_piece, interface_is, then}
use Rattle.model_writer.proofs.text.add_interface.Goals as goal

pub returns : goal.returns
returns c =
    let before = c.args.text.now in
    as_piece before _ _ _
    (then before _ _ _ _ (then before _ _ _ _ (then before _ _ _ _ c.in_ok-add_title.ensures c.in_ok-add_line.ensures) c.in_ok-add_clocks.ensures) c.in_ok-add_line-2.ensures)
    (interface_is (shaped_model c.args.lines))
