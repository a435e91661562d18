use Rattle.model_writer.proofs.TextLaws.{as_piece, clocks_are}
use Rattle.model_writer.proofs.text.add_clocks.Goals as goal

pub returns : goal.returns
returns c =
    as_piece c.args.text.now _ _ _ c.in_ok-add_line.ensures (clocks_are c.args.clocks.now _ _ c.in-Some.ensures.cases.0)
