use Rattle.std.proofs.Common.{◌≡◌, ◌+◌, drop, length}
use Rattle.std.specs.Prelude.{flat_map}
use Rattle.model_writer.specs.Shapes.{line_covers}
use Rattle.plain_models.specs.Lines.{text_of}
use Rattle.plain_models.specs.Texts.{cover_lines}
use Rattle.model_writer.proofs.counts.nodes_length.Given as goal

-- the covers so far, and what is left
abbrev pub invariant-loop-node : goal.invariant-loop-node
invariant-loop-node l =
    (l.number ≡ 2 + l.node-index)
    × (l.count + length (text_of (flat_map cover_lines (line_covers l.variables l.number (drop l.node-index l.nodes))))
    ≡ length (text_of (flat_map cover_lines (line_covers l.variables 2 l.nodes))))
