use Rattle.model_writer.proofs.TextLaws.{as_piece, line_is, then}
use Rattle.model_writer.proofs.text.add_line.Goals as goal

pub returns : goal.returns
returns c =
    as_piece c.args.text.now _ _ _ (then c.args.text.now _ _ _ _ (then c.args.text.now _ _ _ _ c.in_ok-extend.ensures c.in_ok-add_words.ensures) c.in_ok-extend-2.ensures)
    (line_is c.args.first.now c.args.words.now)
