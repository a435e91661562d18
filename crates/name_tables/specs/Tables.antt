-- Tables of values by name.
use Rattle.std.specs.Prelude.{◌≡◌, ◌++◌, ◌∷◌, [], ℕ, cond, nat_lt, List, length, filter_map, Option, Some, None, slice_get, bytes_eq}
use Rattle.name_tables.specs.Firsts.{first_in, value_in}
use Rattle.name_tables.specs.declared.table.NameTable.{NameTable}
use Rattle.vrt_model.specs.Lists.{has_name}

-- a value under a name
pub record Named (V : Type 0) : Type 0 where
  pub name : List ℕ
  pub value : V

abbrev pub named : {V : Type 0} → List ℕ → V → Named V
named name value = record { name = name; value = value }

-- the values under a name, in their order
abbrev pub values_of : {V : Type 0} → List (Named V) → List ℕ → List V
values_of {V} entries name = filter_map (λ (e : Named V). cond (bytes_eq e.name name) (Some e.value) None) entries

-- under each name the first of its values, and whether there is a second
pub record HasEntries {V : Type 0} (entries : List (Named V)) (names : List (List ℕ)) (values : List V) (again : List (List ℕ)) : Type 0 where
  pub even : length names ≡ length values
  pub first : (name : List ℕ) → first_in names values name ≡ slice_get (values_of entries name) 0
  pub second : (name : List ℕ) → has_name again name ≡ nat_lt 1 (length (values_of entries name))

abbrev pub IsTable : {V : Type 0} → List (Named V) → NameTable V → Type 0
IsTable entries table = HasEntries entries table.firsts.names table.firsts.values table.again

-- a table gets a value under a name, behind those that are there
abbrev pub Adds : {V : Type 0} → List ℕ → V → NameTable V → NameTable V → Type 0
Adds {V} name value old new = (entries : List (Named V)) → IsTable entries old → IsTable (entries ++ named name value ∷ []) new

-- the first value that a table has under a name
abbrev pub first_value : {V : Type 0} → NameTable V → List ℕ → Option V
first_value table name = value_in table.firsts name
