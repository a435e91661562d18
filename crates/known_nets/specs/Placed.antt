-- Numbers in lists by number: a number is put at the end of its owner's list, and so is an arc at the number that it leads to.
use Rattle.std.specs.Prelude.{◌≡◌, ℕ, ◌<◌, ◌⊎◌, List, [], ◌∷◌, ◌++◌, Option, Some, length}
use Rattle.graphs.specs.Graphs.{ArcIn}
use Rattle.vrt_model.specs.Lists.{At}

-- a number is at the end of its owner's group, and the other groups are as they were
pub record IsPlaced (owner : Option ℕ) (number : ℕ) (old new : List (List ℕ)) : Type 0 where
  pub count : length new ≡ length old
  pub own : (k : ℕ) (group : List ℕ) → At new k group → owner ≡ Some k → (before : List ℕ) × At old k before × (group ≡ before ++ number ∷ [])
  pub others : (k : ℕ) (group : List ℕ) → At new k group → (owner ≡ Some k → ⊥) → At old k group

-- arcs more, to the numbers that there are
pub record Adds (Arc : ℕ → ℕ → Type 0) (old new : List (List ℕ)) : Type 0 where
  pub count : length new ≡ length old
  pub only : (from to : ℕ) → ArcIn new from to → ArcIn old from to ⊎ Arc from to
  pub stays : (from to : ℕ) → ArcIn old from to → ArcIn new from to
  pub joined : (from to : ℕ) → Arc from to → to < length old → ArcIn new from to

abbrev pub IsArc : ℕ → ℕ → ℕ → ℕ → Type 0
IsArc from to f t = (f ≡ from) × (t ≡ to)
