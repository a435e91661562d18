use Rattle.model_writer.proofs.TextLaws.{as_piece, root_is, then}
use Rattle.model_writer.proofs.text.add_root.Goals as goal

pub returns : goal.returns
returns c =
    let before = c.args.text.now in
    as_piece before _ _ _
    (then before _ _ _ _ (then before _ _ _ _ (then before _ _ _ _ c.in_ok-extend.ensures c.in_ok-add_signal.ensures) c.in_ok-add_word.ensures) c.in_ok-extend-2.ensures)
    (root_is c.args.name.now c.args.root)
