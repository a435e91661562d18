-- Tables of values by name.
use Rattle.std.proofs.Common.{◌≡◌, ◌++◌, ◌∷◌, ◌+◌, [], ℕ, nat_lt, List, Bool, true, false, cond, map, take, length, Option, Some, None, option_map, refl, ap, sym, subst, ◌∙◌}
use Rattle.std.specs.Prelude.{bytes_eq, find, filter, filter_map, slice_get, ◌&&◌}
use Rattle.std.specs.List.{cons_option}
use Rattle.std.proofs.lemmas.List.Elements.{filter_map-append}
use Rattle.vrt_model.proofs.Lists.{take_one}
use Rattle.vrt_model.specs.Lists.{has_name}
use Rattle.latch_match.specs.Looked.{Grows}
use Rattle.name_tables.specs.Tables.{IsTable, Named, first_value, named, values_of}
use Rattle.name_tables.specs.declared.table.NameTable.{NameTable}

-- ---- tables that grow rule by rule

-- one more item may give one
pub more_ruled : {X V : Type 0} (h : X → Option (Named V)) (xs : List X) (i : ℕ) (x : X) (t u : NameTable V) → slice_get xs i ≡ Some x
    → IsTable (filter_map h (take i xs)) t → Grows h x t u → IsTable (filter_map h (take (i + 1) xs)) u
more_ruled {X} {V} h xs i x t u at before grows =
    subst (λ (es : List (Named V)). IsTable es u) (sym (filter_map-append h (take i xs) (x ∷ [])) ∙ ap (filter_map h) (sym (take_one xs i x at))) (grows (filter_map h (take i xs)) before)

-- the item at a place gives a value
pub found : {X V : Type 0} (g : X → Named V) (entries : List (Named V)) (o : Option X) (x : X) (name : List ℕ) (value : V) (u : NameTable V) → Some x ≡ o → named name value ≡ g x → IsTable (entries ++ named name value ∷ []) u
    → IsTable (entries ++ cons_option (option_map g o) []) u
found {X} {V} g entries o x name value u e is t =
    subst (λ (p : Option X). IsTable (entries ++ cons_option (option_map g p) []) u) e (subst (λ (n : Named V). IsTable (entries ++ n ∷ []) u) is t)

-- ---- what a table of items says

first_ruled : {X V : Type 0} (test : X → Bool) (key : X → List ℕ) (value : X → V) (xs : List X) (name : List ℕ)
    → slice_get (values_of (filter_map (λ x. cond (test x) (Some (named (key x) (value x))) None) xs) name) 0 ≡ option_map value (find (λ x. test x && bytes_eq (key x) name) xs)
first_ruled test key value [] name = refl
first_ruled {X} {V} test key value (x ∷ xs) name =
    by_test (test x) (bytes_eq (key x) name) refl (filter_map (λ (y : X). cond (test y) (Some (named (key y) (value y))) None) xs) (find (λ (y : X). test y && bytes_eq (key y) name) xs) (first_ruled test key value xs name) where
      by_test : (b d : Bool) → bytes_eq (key x) name ≡ d → (es : List (Named V)) (o : Option X) → slice_get (values_of es name) 0 ≡ option_map value o
          → slice_get (values_of (cons_option (cond b (Some (named (key x) (value x))) None) es) name) 0 ≡ option_map value (cond (b && d) (Some x) o)
      by_test false d same es o e = e
      by_test true true same es o e = ap (λ (t : Bool). slice_get (cons_option (cond t (Some (value x)) None) (values_of es name)) 0) same
      by_test true false same es o e = ap (λ (t : Bool). slice_get (cons_option (cond t (Some (value x)) None) (values_of es name)) 0) same ∙ e

count_named : {X : Type 0} (key : X → List ℕ) (xs : List X) (name : List ℕ) → values_of (map (λ x. named (key x) x) xs) name ≡ filter (λ x. bytes_eq (key x) name) xs
count_named key [] name = refl
count_named {X} key (x ∷ xs) name = by_test (bytes_eq (key x) name) _ _ (count_named key xs name) where
  by_test : (b : Bool) (vs ws : List X) → vs ≡ ws → cons_option (cond b (Some x) None) vs ≡ cond b (x ∷ ws) ws
  by_test true vs ws e = ap (λ rest. x ∷ rest) e
  by_test false vs ws e = e

-- the first value of a table is that of the first item that has one
pub first_rule : {X V : Type 0} (test : X → Bool) (key : X → List ℕ) (value : X → V) (xs : List X) (t : NameTable V) (name : List ℕ)
    → IsTable (filter_map (λ x. cond (test x) (Some (named (key x) (value x))) None) xs) t → first_value t name ≡ option_map value (find (λ x. test x && bytes_eq (key x) name) xs)
first_rule test key value xs t name is = is.first name ∙ first_ruled test key value xs name

-- whether there is a second item
pub second_item : {X : Type 0} (key : X → List ℕ) (xs : List X) (t : NameTable X) (name : List ℕ) → IsTable (map (λ x. named (key x) x) xs) t
    → has_name t.again name ≡ nat_lt 1 (length (filter (λ x. bytes_eq (key x) name) xs))
second_item {X} key xs t name is = is.second name ∙ ap (λ (vs : List X). nat_lt 1 (length vs)) (count_named key xs name)

pub first_kept : {X : Type 0} (key : X → List ℕ) (xs : List X) (t : NameTable X) (name : List ℕ) → IsTable (map (λ x. named (key x) x) xs) t
    → first_value t name ≡ slice_get (filter (λ x. bytes_eq (key x) name) xs) 0
first_kept {X} key xs t name is = is.first name ∙ ap (λ (vs : List X). slice_get vs 0) (count_named key xs name)
