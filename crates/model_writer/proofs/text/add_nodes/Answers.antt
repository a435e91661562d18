use Rattle.std.proofs.Common.{◌+◌, ap, arith, length}
use Rattle.std.specs.Prelude.{flat_map}
use Rattle.model_writer.proofs.TextLaws.{nodes_on}
use Rattle.model_writer.specs.Shapes.{line_covers}
use Rattle.plain_models.specs.Lines.{text_of}
use Rattle.plain_models.specs.Texts.{cover_lines}
use Rattle.model_writer.proofs.text.add_nodes.Goals as goal

pub nodes-preserved : goal.nodes-preserved
nodes-preserved c =
    let left = c.in-Some.ensures.cases.0 in
    let count = ap length left in (
      omega (arith, c.nodes.invariant.0, count),
      nodes_on c.args.variables.now c.nodes.number c.in-Some.node.now c.in-Some.behind.now c.nodes.left.now c.args.text.now c.nodes.text c.add_node.new.text
          (text_of (flat_map cover_lines (line_covers c.args.variables.now 2 c.args.nodes.now))) left c.nodes.invariant.1 c.in_ok-add_node.ensures,
    )
