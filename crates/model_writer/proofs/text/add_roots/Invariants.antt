use Rattle.std.proofs.Common.{◌≡◌, ◌++◌, length}
use Rattle.std.specs.Prelude.{flat_map}
use Rattle.model_writer.specs.Shapes.{root_covers}
use Rattle.plain_models.specs.Lines.{text_of}
use Rattle.plain_models.specs.Texts.{cover_lines}
use Rattle.model_writer.proofs.text.add_roots.Given as goal

-- the covers so far, and what is left
abbrev pub invariant-outputs : goal.invariant-outputs
invariant-outputs l =
    l.text ++ text_of (flat_map cover_lines (root_covers l.names_left l.roots_left))
    ≡ l.initial.text ++ text_of (flat_map cover_lines (root_covers l.fn.names l.fn.roots))

abbrev pub decreases-outputs : goal.decreases-outputs
decreases-outputs l = length l.names_left
