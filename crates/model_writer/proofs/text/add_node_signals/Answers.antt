use Rattle.written_models.specs.Written.{numbered}
use Rattle.model_writer.proofs.TextLaws.{as_piece, signals_are, then}
use Rattle.model_writer.proofs.text.add_node_signals.Goals as goal

pub returns : goal.returns
returns c =
    let before = c.args.text.now in
    as_piece before _ _ _
    (then before _ _ _ _ (then before _ _ _ _ (then before _ _ _ _ (then before _ _ _ _ c.in_ok-extend.ensures c.in_ok-extend-2.ensures) c.in_ok-add_signal.ensures) c.in_ok-add_signal-2.ensures)
    c.in_ok-add_signal-3.ensures)
    (signals_are c.args.variable.now (numbered c.args.node.low) (numbered c.args.node.high) (numbered c.args.number))
