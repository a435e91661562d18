use Rattle.std.proofs.Common.{◌≡◌, ◌+◌, ◌≤◌, ◌++◌, length}
use Rattle.std.specs.Prelude.{flat_map}
use Rattle.model_writer.specs.Shapes.{line_covers}
use Rattle.plain_models.specs.Lines.{text_of}
use Rattle.plain_models.specs.Texts.{cover_lines}
use Rattle.model_writer.proofs.text.add_nodes.Given as goal

-- the covers so far, and what is left
abbrev pub invariant-nodes : goal.invariant-nodes
invariant-nodes l =
    (l.number + length l.left ≤ 20002)
    × (l.text ++ text_of (flat_map cover_lines (line_covers l.variables l.number l.left))
    ≡ l.initial.text ++ text_of (flat_map cover_lines (line_covers l.variables 2 l.fn.nodes)))

abbrev pub decreases-nodes : goal.decreases-nodes
decreases-nodes l = length l.left
