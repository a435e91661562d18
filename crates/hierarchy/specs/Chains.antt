-- From something down to itself again.
use Rattle.std.specs.Prelude.{ℕ, List, [], ◌∷◌, ◌++◌, reverse}

-- from the first of a cycle around to it again, against the arcs
abbrev pub first_of : List ℕ → List ℕ
first_of [] = []
first_of (n ∷ nodes) = n ∷ []

abbrev pub way_down : List ℕ → List ℕ
way_down nodes = first_of nodes ++ reverse nodes
