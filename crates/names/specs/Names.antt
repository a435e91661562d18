-- Names that are gathered, each once.
use Rattle.std.specs.Prelude.{ℕ, List, [], ◌∷◌, ◌++◌, Bool, not, Option, Some, None, if◌then◌else◌, find}
use Rattle.std.specs.List.{list_any}
use Rattle.vrt_model.specs.Lists.{has_name}

-- the names with one more, the last, unless it is there
abbrev pub with_name : List (List ℕ) → List ℕ → List (List ℕ)
with_name names name = if has_name names name then names else names ++ name ∷ []

-- the names with more, each one that is not there as the last
abbrev pub with_names : List (List ℕ) → List (List ℕ) → List (List ℕ)
with_names names [] = names
with_names names (x ∷ xs) = with_names (with_name names x) xs

-- each item whose name is not known and no item before it has
abbrev pub distinct_from : {X : Type 0} → (X → List ℕ) → List (List ℕ) → List X → List X
distinct_from name known [] = []
distinct_from name known (x ∷ xs) =
    if has_name known (name x) then distinct_from name known xs else x ∷ distinct_from name (known ++ name x ∷ []) xs

-- the first item of each name
abbrev pub distinct_by : {X : Type 0} → (X → List ℕ) → List X → List X
distinct_by name xs = distinct_from name [] xs

-- the first item that stands among those before it
abbrev pub first_again : {X : Type 0} → (X → X → Bool) → List X → List X → Option X
first_again same before [] = None
first_again same before (x ∷ xs) = if list_any (same x) before then Some x else first_again same (before ++ x ∷ []) xs

-- the first name that is not among these
abbrev pub first_missing : List (List ℕ) → List (List ℕ) → Option (List ℕ)
first_missing known names = find (λ name. not (has_name known name)) names
