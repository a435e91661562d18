-- The models of a file by their names, in tables.
use Rattle.std.specs.Prelude.{◌≡◌, ℕ, List, [], bytes_eq, filter, length, nat_lt, position}
use Rattle.std.specs.Str.{str_to_ascii_lowercase}
use Rattle.name_tables.specs.Firsts.{IsEven, value_in}
use Rattle.name_tables.specs.Tables.{IsTable}
use Rattle.name_tables.specs.declared.table.NameTable.{NameTable}
use Rattle.prepared_tables.specs.declared.by_name.ModelNames.{ModelNames}
use Rattle.vrt_model.specs.Lists.{has_name}
use Rattle.vrt_model.specs.declared.blif.BlifModel.{BlifModel}

-- the name of a model, as it stands and in lower case
abbrev pub own_name : BlifModel → List ℕ
own_name m = m.name

abbrev pub low_name : BlifModel → List ℕ
low_name m = str_to_ascii_lowercase m.name

-- ---- one table

-- under each name the place of the first model that has it, and whether a second one has it
pub record AreNoted (key : BlifModel → List ℕ) (models : List BlifModel) (t : NameTable ℕ) : Type 0 where
  pub even : IsEven t.firsts
  pub first : (name : List ℕ) → value_in t.firsts name ≡ position (λ (m : BlifModel). bytes_eq (key m) name) models
  pub again : (name : List ℕ) → has_name t.again name ≡ nat_lt 1 (length (filter (λ (m : BlifModel). bytes_eq (key m) name) models))

-- ---- both tables

pub record HasNoModels (names : ModelNames) : Type 0 where
  pub exact : IsTable [] names.exact
  pub lowered : IsTable [] names.lowered

-- the models by their names as they stand, and in lower case
pub record AreModelNames (models : List BlifModel) (names : ModelNames) : Type 0 where
  pub exact : AreNoted own_name models names.exact
  pub lowered : AreNoted low_name models names.lowered
