-- Graphs, by the numbers from which arcs lead to each number.
use Rattle.std.specs.Prelude.{ℕ, ◌<◌, ◌↔◌, List, [], length, get_or}
use Rattle.vrt_model.specs.Lists.{Among}

-- the numbers from which arcs lead to one
abbrev pub sources_at : List (List ℕ) → ℕ → List ℕ
sources_at sources n = get_or sources n []

-- an arc leads from one number to another
abbrev pub ArcIn : List (List ℕ) → ℕ → ℕ → Type 0
ArcIn sources from to = Among (sources_at sources to) from

-- each number is one of the graph
abbrev pub AreInside : List (List ℕ) → Type 0
AreInside sources = (from to : ℕ) → ArcIn sources from to → from < length sources

-- a graph has these arcs
abbrev pub HasArcs : (ℕ → ℕ → Type 0) → List (List ℕ) → Type 0
HasArcs Arc sources = (from to : ℕ) → ArcIn sources from to ↔ Arc from to
