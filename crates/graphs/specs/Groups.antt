-- Groups of the numbers of a graph: which numbers can be on a cycle.
use Rattle.std.specs.Prelude.{◌≡◌, ℕ, ◌≤◌, Bool, true, List, ◌∷◌, slice_index, slice_index_or}
use Rattle.graphs.specs.Graphs.{ArcIn}
use Rattle.vrt_model.specs.Known.{IsCycle}

-- no arc leads to a lower group
abbrev pub NoneFalls : List (List ℕ) → List ℕ → Type 0
NoneFalls sources groups = (from to : ℕ) → ArcIn sources from to → slice_index groups from ≤ slice_index groups to

-- whether a number is marked; past the end of the marks all are
abbrev pub is_marked : List Bool → ℕ → Bool
is_marked marks n = slice_index_or marks n true

-- the numbers from which an arc stays in a group are marked
abbrev pub HasStays : List (List ℕ) → List ℕ → List Bool → Type 0
HasStays sources groups marks = (from to : ℕ) → ArcIn sources from to → slice_index groups from ≡ slice_index groups to → is_marked marks from ≡ true

-- each number on a cycle is marked
abbrev pub HasCycles : List (List ℕ) → List Bool → Type 0
HasCycles sources marks = (n : ℕ) (others : List ℕ) → IsCycle (ArcIn sources) (n ∷ others) → is_marked marks n ≡ true
