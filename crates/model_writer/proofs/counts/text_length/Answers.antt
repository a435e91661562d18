use Rattle.std.proofs.Common.{refl, arith}
use Rattle.model_writer.specs.Shapes.{line_covers, root_covers, shaped_model}
use Rattle.model_writer.proofs.LengthLaws.{model_length}
use Rattle.model_writer.proofs.counts.text_length.Goals as goal

pub returns : goal.returns
returns c =
    let lines = c.args.lines in
    let all = model_length (shaped_model lines) (line_covers lines.variables.now 2 lines.nodes.now) (root_covers lines.outputs.now lines.roots.now) refl in
    omega (
      arith,
      all,
      c.in_ok-interface.ensures,
      c.in_ok-nodes.ensures,
      c.in_ok-roots.ensures,
      c.number_length.ensures.is,
      c.number_length-2.ensures.is,
      c.in_ok-covers.ensures,
      c.in_ok-before.ensures,
      c.in_ok-count.ensures,
    )
