-- What is looked up by name: the numbers of models, and the signals of the interfaces of those that stand in models.
use Rattle.std.specs.Prelude.{◌≡◌, ◌⊎◌, [], ℕ, List, cond, flat_map, map}
use Rattle.names.specs.Names.{with_names}
use Rattle.vrt_model.specs.Lists.{distinct, has_name}
use Rattle.vrt_model.specs.Models.{interface_of}
use Rattle.vrt_model.specs.declared.blif.Blif.{Blif}
use Rattle.vrt_model.specs.declared.blif.BlifModel.{BlifModel}
use Rattle.vrt_model.specs.declared.blif.SubLine.{SubLine}
use Rattle.blif_checks.specs.declared.tables.Tables.{Tables}

-- the models that stand in models, by their names
abbrev pub sub_models : BlifModel → List (List ℕ)
sub_models m = map (λ (s : SubLine). s.model) m.subs

abbrev pub inner_names : List BlifModel → List (List ℕ)
inner_names models = with_names [] (flat_map sub_models models)

-- the interface of a model that is among some, each signal once; of another one nothing
abbrev pub interface_by : List (List ℕ) → BlifModel → List (List ℕ)
interface_by inner m = cond (has_name inner m.name) (distinct (interface_of m)) []

-- the interface of a model, each signal once, or nothing
abbrev pub IsInterfaceSet : BlifModel → List (List ℕ) → Type 0
IsInterfaceSet m interface = (interface ≡ []) ⊎ (interface ≡ distinct (interface_of m))

-- the names of the models in their order, and the interface of each that stands in a model
pub record AreTables (blif : Blif) (tables : Tables) : Type 0 where
  pub names : tables.names ≡ map (λ (m : BlifModel). m.name) blif.models
  pub interfaces : tables.interfaces ≡ map (interface_by (inner_names blif.models)) blif.models
