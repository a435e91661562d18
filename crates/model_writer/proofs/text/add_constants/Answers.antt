use Rattle.model_writer.proofs.TextLaws.{as_piece, constants_are, then}
use Rattle.model_writer.proofs.text.add_constants.Goals as goal

pub returns : goal.returns
returns c =
    let before = c.args.text.now in
    as_piece before _ _ _
    (then before _ _ _ _ (then before _ _ _ _ (then before _ _ _ _ (then before _ _ _ _ c.in_ok-extend.ensures c.in_ok-add_signal.ensures) c.in_ok-extend-2.ensures) c.in_ok-add_signal-2.ensures)
    c.in_ok-extend-3.ensures)
    constants_are
