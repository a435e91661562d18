-- Cells and phases by their names on the command line, which are lowered in ASCII.
use Rattle.std.specs.Prelude.{ℕ, List, Option, bytes_eq, position}
use Rattle.std.specs.Str.{str_to_ascii_lowercase}
use Rattle.vrt_model.specs.declared.design.Cell.{Cell}
use Rattle.vrt_model.specs.declared.design.Design.{Design}
use Rattle.vrt_model.specs.declared.rules.Phase.{Phase}
use Rattle.vrt_model.specs.declared.rules.Rules.{Rules}

abbrev pub cell_asked : Design → List ℕ → Option ℕ
cell_asked design word = position (λ (c : Cell). bytes_eq c.name (str_to_ascii_lowercase word)) design.cells

abbrev pub phase_asked : Rules → List ℕ → Option ℕ
phase_asked rules word = position (λ (p : Phase). bytes_eq p.name (str_to_ascii_lowercase word)) rules.phases
