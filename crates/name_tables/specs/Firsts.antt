-- What was noted first under a name.
use Rattle.std.specs.Prelude.{◌≡◌, ℕ, List, [], ◌∷◌, Option, Some, None, cond, length, bytes_eq}
use Rattle.name_tables.specs.declared.firsts.FirstValues.{FirstValues}

-- the value at the place of a name
abbrev pub first_in : {X : Type 0} → List (List ℕ) → List X → List ℕ → Option X
first_in [] values name = None
first_in (other ∷ names) [] name = None
first_in (other ∷ names) (value ∷ values) name = cond (bytes_eq name other) (Some value) (first_in names values name)

abbrev pub value_in : {X : Type 0} → FirstValues X → List ℕ → Option X
value_in table name = first_in table.names table.values name

-- each name has a value
abbrev pub IsEven : {X : Type 0} → FirstValues X → Type 0
IsEven table = length table.names ≡ length table.values

-- nothing was noted
pub record IsFresh {X : Type 0} (table : FirstValues X) : Type 0 where
  pub even : IsEven table
  pub none : (name : List ℕ) → value_in table name ≡ None
