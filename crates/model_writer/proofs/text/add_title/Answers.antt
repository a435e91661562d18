use Rattle.model_writer.proofs.TextLaws.{as_piece, then, title_is}
use Rattle.model_writer.proofs.text.add_title.Goals as goal

pub returns : goal.returns
returns c =
    as_piece c.args.text.now _ _ _ (then c.args.text.now _ _ _ _ (then c.args.text.now _ _ _ _ c.in_ok-extend.ensures c.in_ok-add_word.ensures) c.in_ok-extend-2.ensures)
    (title_is c.args.name.now)
