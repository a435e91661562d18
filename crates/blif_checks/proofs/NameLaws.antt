-- Models by their names, and their interfaces.
use Rattle.std.proofs.Common.{◌≡◌, ◌∷◌, ◌++◌, ◌<◌, ◌||◌, inl, inr, [], ℕ, zero, suc, List, Bool, true, false, cond, length, Option, Some, None, option_map, refl, ap, ap₂, sym, ◌∙◌, subst, arith}
use Rattle.std.specs.Prelude.{◌==◌, bytes_eq, slice_get, unwrap_or, is_some}
use Rattle.std.specs.List.{position}
use Rattle.std.proofs.lemmas.Option.{same_Some, slice_get-map}
use Rattle.std.proofs.lemmas.List.Folds.{list_any-append}
use Rattle.vrt_model.specs.Lists.{distinct, has_name}
use Rattle.names.specs.Names.{with_names}
use Rattle.std.proofs.lemmas.List.{length-map}
use Rattle.names.proofs.NameLaws.{once_has_same, once_of_three}
use Rattle.names.proofs.PlaceLaws.{any_placed, placed_within, position_same}
use Rattle.vrt_model.specs.FlatBlif.{model_at, model_numbered}
use Rattle.vrt_model.specs.Models.{interface_of, is_model}
use Rattle.vrt_model.specs.declared.blif.Blif.{Blif}
use Rattle.blif_checks.specs.Tables.{AreTables, IsInterfaceSet, inner_names, interface_by}
use Rattle.blif_checks.specs.declared.tables.Tables.{Tables}
use Rattle.vrt_model.specs.declared.blif.BlifModel.{BlifModel}

-- an interface, list by list
pub interface_once : (m : BlifModel) (none first second third inputs clocks outputs : List (List ℕ)) → none ≡ [] → inputs ≡ m.inputs → clocks ≡ m.clocks → outputs ≡ m.outputs
    → first ≡ with_names none inputs → second ≡ with_names first clocks → third ≡ with_names second outputs → third ≡ distinct (interface_of m)
interface_once m none first second third inputs clocks outputs n i c o e f g =
    g ∙ ap₂ with_names (f ∙ ap₂ with_names (e ∙ ap₂ with_names n i) c) o ∙ once_of_three m.inputs m.clocks m.outputs

-- ---- models and interfaces at a place

got : {X : Type 0} (xs : List X) (n : ℕ) → n < length xs → slice_get xs n ≡ None → ⊥
got [] n lt e = absurd (omega arith)
got (x ∷ xs) zero lt e = cc
got (x ∷ xs) (suc n) lt e = got xs n (omega arith) e

abbrev pub place_in : Blif → List ℕ → Option ℕ
place_in blif name = position (λ (m : BlifModel). bytes_eq m.name name) blif.models

pub place_is : (blif : Blif) (tables : Tables) (name : List ℕ) → AreTables blif tables → position (bytes_eq name) tables.names ≡ place_in blif name
place_is blif tables name are = ap (position (bytes_eq name)) are.names ∙ position_same (λ (m : BlifModel). m.name) name blif.models

pub within : (blif : Blif) (name : List ℕ) (n : ℕ) → place_in blif name ≡ Some n → n < length blif.models
within blif name n e = placed_within (λ (m : BlifModel). bytes_eq m.name name) blif.models n e

-- a name without a place is no model's
pub no_place : (blif : Blif) (tables : Tables) (name : List ℕ) → AreTables blif tables → position (bytes_eq name) tables.names ≡ None → is_model blif name ≡ false
no_place blif tables name are e = any_placed (λ (m : BlifModel). bytes_eq m.name name) blif.models ∙ ap is_some (sym (place_is blif tables name are) ∙ e)

-- at a place there is a model
pub some_model : (blif : Blif) (tables : Tables) (name : List ℕ) (n : ℕ) → AreTables blif tables → position (bytes_eq name) tables.names ≡ Some n → slice_get blif.models n ≡ None → ⊥
some_model blif tables name n are e none = got blif.models n (within blif name n (sym (place_is blif tables name are) ∙ e)) none

-- and its interface
pub some_interface : (blif : Blif) (tables : Tables) (name : List ℕ) (n : ℕ) → AreTables blif tables → position (bytes_eq name) tables.names ≡ Some n → slice_get tables.interfaces n ≡ None → ⊥
some_interface blif tables name n are e none =
    let lt : n < length blif.models = within blif name n (sym (place_is blif tables name are) ∙ e) in
    got tables.interfaces n (omega (arith, ap length are.interfaces, length-map blif.models (interface_by (inner_names blif.models)))) none

pub model_there : (blif : Blif) (n : ℕ) (m : BlifModel) → slice_get blif.models n ≡ Some m → m ≡ model_at blif n
model_there blif n m e =
    sym (ap (λ o. unwrap_or o (record { line = 0; name = []; inputs = []; input_lines = []; clocks = []; clock_lines = []; outputs = []; output_lines = []; covers = []; latches = []; subs = []; exdc = [] })) e)

-- an interface of the tables is that of its model, or nothing
interface_kept : (inner : List (List ℕ)) (m : BlifModel) → IsInterfaceSet m (interface_by inner m)
interface_kept inner m = by_test (has_name inner m.name) where
  by_test : (b : Bool) → IsInterfaceSet m (cond b (distinct (interface_of m)) [])
  by_test true = inr refl
  by_test false = inl refl

pub interface_there : (blif : Blif) (tables : Tables) (n : ℕ) (m : BlifModel) (interface : List (List ℕ)) → AreTables blif tables → slice_get blif.models n ≡ Some m → slice_get tables.interfaces n ≡ Some interface
    → IsInterfaceSet m interface
interface_there blif tables n m interface are at_models at_interfaces =
    let listed : Some (interface_by (inner_names blif.models) m) ≡ Some interface =
    sym (sym at_interfaces ∙ ap (λ xs. slice_get xs n) are.interfaces ∙ slice_get-map (interface_by (inner_names blif.models)) blif.models n ∙ ap (option_map (interface_by (inner_names blif.models))) at_models) in
    subst (IsInterfaceSet m) (same_Some (interface_by (inner_names blif.models) m) interface listed) (interface_kept (inner_names blif.models) m)

-- there are as many as models
pub no_interface : (blif : Blif) (tables : Tables) (n : ℕ) (interface : List (List ℕ)) → AreTables blif tables → slice_get tables.interfaces n ≡ Some interface → slice_get blif.models n ≡ None → ⊥
no_interface blif tables n interface are at none =
    let never : Some interface ≡ None =
    sym at ∙ ap (λ xs. slice_get xs n) are.interfaces ∙ slice_get-map (interface_by (inner_names blif.models)) blif.models n ∙ ap (option_map (interface_by (inner_names blif.models))) none in cc

pub no_model : (blif : Blif) (tables : Tables) (n : ℕ) → AreTables blif tables → slice_get tables.interfaces n ≡ None → model_at blif n ≡ (record { line = 0; name = []; inputs = []; input_lines = []; clocks = []; clock_lines = []; outputs = []; output_lines = []; covers = []; latches = []; subs = []; exdc = [] })
no_model blif tables n are at = by_model (slice_get blif.models n) refl where
  by_model : (o : Option BlifModel) → slice_get blif.models n ≡ o → model_at blif n ≡ (record { line = 0; name = []; inputs = []; input_lines = []; clocks = []; clock_lines = []; outputs = []; output_lines = []; covers = []; latches = []; subs = []; exdc = [] })
  by_model None here = ap (λ o. unwrap_or o (record { line = 0; name = []; inputs = []; input_lines = []; clocks = []; clock_lines = []; outputs = []; output_lines = []; covers = []; latches = []; subs = []; exdc = [] })) here
  by_model (Some m) here =
      let never : None ≡ Some (interface_by (inner_names blif.models) m) =
      sym at ∙ ap (λ xs. slice_get xs n) are.interfaces ∙ slice_get-map (interface_by (inner_names blif.models)) blif.models n ∙ ap (option_map (interface_by (inner_names blif.models))) here in cc

-- where it is not empty it has the names of the interface
pub known_in : (m : BlifModel) (interface : List (List ℕ)) (name : List ℕ) → IsInterfaceSet m interface → (length interface == 0) ≡ false → has_name interface name ≡ has_name (interface_of m) name
known_in m [] name (inl e) some = cc
known_in m (x ∷ interface) name (inl e) some = cc
known_in m interface name (inr e) some = ap (λ ns. has_name ns name) e ∙ once_has_same (interface_of m) name

-- the names of an interface, list by list
pub listed_in : (m : BlifModel) (name : List ℕ) → ((has_name m.inputs name || has_name m.clocks name) || has_name m.outputs name) ≡ has_name (interface_of m) name
listed_in m name =
    ap (λ b. b || has_name m.outputs name) (sym (list_any-append (bytes_eq name) m.inputs m.clocks)) ∙ sym (list_any-append (bytes_eq name) (m.inputs ++ m.clocks) m.outputs)

-- the model of a name, and its interface
pub found_model : (blif : Blif) (tables : Tables) (name : List ℕ) (n : ℕ) (m : BlifModel) (interface : List (List ℕ)) → AreTables blif tables
    → position (bytes_eq name) tables.names ≡ Some n → slice_get blif.models n ≡ Some m → slice_get tables.interfaces n ≡ Some interface
    → (is_model blif name ≡ true) × (m ≡ model_at blif (model_numbered blif name)) × IsInterfaceSet m interface
found_model blif tables name n m interface are e at_models at_interfaces =
    let place : place_in blif name ≡ Some n = sym (place_is blif tables name are) ∙ e in (
      any_placed (λ (m : BlifModel). bytes_eq m.name name) blif.models ∙ ap is_some place,
      model_there blif n m at_models ∙ ap (λ k. model_at blif k) (ap (λ o. unwrap_or o 0) (sym place)),
      interface_there blif tables n m interface are at_models at_interfaces,
    )
