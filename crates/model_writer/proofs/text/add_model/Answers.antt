use Rattle.std.proofs.Common.{refl}
use Rattle.model_writer.specs.Shapes.{line_covers, root_covers, shaped_model}
use Rattle.written_models.specs.Written.{constants}
use Rattle.model_writer.proofs.TextLaws.{as_piece, model_is, then}
use Rattle.model_writer.proofs.text.add_model.Goals as goal

pub returns : goal.returns
returns c =
    let before = c.args.text.now in
    let lines = c.args.lines in
    as_piece before _ _ _
    (then before _ _ _ _ (then before _ _ _ _ (then before _ _ _ _ (then before _ _ _ _ c.in_ok-add_interface.ensures c.in_ok-add_constants.ensures) c.in_ok-add_nodes.ensures)
    c.in_ok-add_roots.ensures) c.in_ok-extend.ensures)
    (model_is (shaped_model lines) constants (line_covers lines.variables.now 2 lines.nodes.now) (root_covers lines.outputs.now lines.roots.now) refl)
