-- Lists of names, as `a,b`.
use Rattle.std.specs.Prelude.{◌≡◌, ◌++◌, ℕ, Bool, true, false, cond, List, Option, Some, None, Result, Ok, Err, map}
use Rattle.std.specs.List.{list_any}
use Rattle.std.specs.Str.{str_to_ascii_lowercase}
use Rattle.mode_lines.specs.Lists.{cut}
use Rattle.mode_lines.specs.declared.lists.ListFault.{ListFault}
use Rattle.mode_lines.specs.declared.lists.ListFault.TheVariants.{Form, NoMemory as NoListMemory}
use Rattle.vrt_model.specs.Lists.{is_empty}

-- whether one of these pieces is empty
abbrev pub some_empty : List (List ℕ) → Bool
some_empty pieces = list_any is_empty pieces

-- the pieces, lowered in ASCII
abbrev pub lowered : List (List ℕ) → List (List ℕ)
lowered pieces = map str_to_ascii_lowercase pieces

-- the names between commas, lowered; none where one is empty, as in an empty list
abbrev pub names_in : List ℕ → Option (List (List ℕ))
names_in list = cond (some_empty (cut list)) None (Some (lowered (cut list)))

abbrev pub NamesGive : List ℕ → Result (List (List ℕ)) ListFault → Type 0
NamesGive list (Ok names) = names_in list ≡ Some names
NamesGive list (Err Form) = names_in list ≡ None
NamesGive list (Err NoListMemory) = Unit {0}

-- the names of pieces were added, or some piece is empty
abbrev pub AddsNames : List (List ℕ) → List (List ℕ) → List (List ℕ) → Result (Unit {0}) ListFault → Type 0
AddsNames old new pieces (Ok done) = (some_empty pieces ≡ false) × (new ≡ old ++ lowered pieces)
AddsNames old new pieces (Err Form) = some_empty pieces ≡ true
AddsNames old new pieces (Err NoListMemory) = Unit {0}
