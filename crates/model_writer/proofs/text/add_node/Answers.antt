use Rattle.std.proofs.Common.{◌∷◌, [], ap}
use Rattle.std.specs.Prelude.{codes}
use Rattle.vrt_model.specs.VerdictText.{spaced}
use Rattle.written_models.specs.Written.{numbered}
use Rattle.model_writer.proofs.TextLaws.{as_piece, node_is, then}
use Rattle.model_writer.proofs.text.add_node.Goals as goal

pub returns : goal.returns
returns c =
    let before = c.args.text.now in
    let node = c.args.node in
    let signals = as_piece before _ _ _ c.in_ok-add_node_signals.ensures
    (ap (λ v. spaced (codes ".names" ∷ v ∷ numbered node.low ∷ numbered node.high ∷ numbered c.args.number ∷ [])) c.variable_of.ensures) in
    as_piece before _ _ _ (then before _ _ _ _ signals c.in_ok-extend.ensures) (node_is c.args.variables.now c.args.number node)
