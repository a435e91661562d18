-- The value that was noted first under a name.
use Rattle.std.proofs.Common.{◌≡◌, ◌++◌, ◌∷◌, ◌||◌, [], ℕ, suc, List, Bool, true, false, cond, length, Option, Some, None, refl, ap, ap₂, sym, ◌∙◌, arith}
use Rattle.std.specs.Prelude.{bytes_eq, slice_get, option_map, option_and_then}
use Rattle.std.specs.List.{position}
use Rattle.std.specs.Option.{option_or}
use Rattle.std.proofs.lemmas.Slice.Eq.{bytes_eq-Decides}
use Rattle.names.proofs.PlaceLaws.{place_cons}
use Rattle.vrt_model.proofs.Tests.{bytes_eq-sym}
use Rattle.names.specs.Names.{with_name}
use Rattle.vrt_model.specs.Lists.{has_name}
use Rattle.name_tables.specs.Firsts.{IsEven, first_in, value_in}
use Rattle.name_tables.specs.declared.firsts.FirstValues.{FirstValues}

-- ---- the place of a name

none_there : {X : Type 0} (o : Option ℕ) → option_and_then (λ (n : ℕ). slice_get {X = X} [] n) o ≡ None
none_there None = refl
none_there (Some n) = refl

-- the value at the place of a name is the first under it
pub first_is : {X : Type 0} (names : List (List ℕ)) (values : List X) (name : List ℕ)
    → option_and_then (slice_get values) (position (bytes_eq name) names) ≡ first_in names values name
first_is {X} [] values name = refl
first_is {X} (x ∷ names) [] name = none_there (position (bytes_eq name) (x ∷ names))
first_is {X} (x ∷ names) (v ∷ values) name =
    ap (option_and_then (slice_get (v ∷ values))) (place_cons (bytes_eq name) x names) ∙ by_test (bytes_eq name x) (position (bytes_eq name) names) ∙ ap (cond (bytes_eq name x) (Some v)) (first_is names values name) where
      by_test : (b : Bool) (o : Option ℕ) → option_and_then (slice_get (v ∷ values)) (cond b (Some 0) (option_map suc o)) ≡ cond b (Some v) (option_and_then (slice_get values) o)
      by_test true o = refl
      by_test false None = refl
      by_test false (Some n) = refl

-- ---- one note more

pub or_none : {X : Type 0} (o : Option X) → option_or o None ≡ o
or_none None = refl
or_none (Some x) = refl

-- a name that is new
pub noted_new : {X : Type 0} (names : List (List ℕ)) (values : List X) (name other : List ℕ) (value : X) → length names ≡ length values
    → first_in (names ++ name ∷ []) (values ++ value ∷ []) other ≡ option_or (first_in names values other) (cond (bytes_eq name other) (Some value) None)
noted_new [] [] name other value e = ap (λ (b : Bool). cond b (Some value) None) (bytes_eq-sym other name)
noted_new [] (v ∷ values) name other value e = absurd (omega (arith, e))
noted_new (x ∷ names) [] name other value e = absurd (omega (arith, e))
noted_new {X} (x ∷ names) (v ∷ values) name other value e = by_test (bytes_eq other x) (noted_new names values name other value (omega (arith, e))) where
  by_test : (b : Bool)
      → first_in (names ++ name ∷ []) (values ++ value ∷ []) other ≡ option_or (first_in names values other) (cond (bytes_eq name other) (Some value) None)
      → cond b (Some v) (first_in (names ++ name ∷ []) (values ++ value ∷ []) other)
      ≡ option_or (cond b (Some v) (first_in names values other)) (cond (bytes_eq name other) (Some value) None)
  by_test true rest = refl
  by_test false rest = rest

-- a name that is there has a value
kept_or : {X : Type 0} (names : List (List ℕ)) (values : List X) (name : List ℕ) (o : Option X) → length names ≡ length values → has_name names name ≡ true
    → first_in names values name ≡ option_or (first_in names values name) o
kept_or [] values name o e there = cc
kept_or (x ∷ names) [] name o e there = absurd (omega (arith, e))
kept_or {X} (x ∷ names) (v ∷ values) name o e there = by_test (bytes_eq name x) refl (λ h. kept_or names values name o (omega (arith, e)) h) where
  by_test : (b : Bool) → bytes_eq name x ≡ b
      → (has_name names name ≡ true → first_in names values name ≡ option_or (first_in names values name) o)
      → cond b (Some v) (first_in names values name) ≡ option_or (cond b (Some v) (first_in names values name)) o
  by_test true h more = refl
  by_test false h more = more (ap (λ (b : Bool). b || has_name names name) (sym h) ∙ there)

-- a name that was there
pub old_noted : {X : Type 0} (names : List (List ℕ)) (values : List X) (name other : List ℕ) (value : X) → length names ≡ length values → true ≡ has_name names name
    → first_in names values other ≡ option_or (first_in names values other) (cond (bytes_eq name other) (Some value) None)
old_noted {X} names values name other value e there = by_test (bytes_eq name other) refl where
  by_test : (b : Bool) → bytes_eq name other ≡ b → first_in names values other ≡ option_or (first_in names values other) (cond b (Some value) None)
  by_test true h =
      let same : name ≡ other = (bytes_eq-Decides name other).0 h in
      kept_or names values other (Some value) e (ap (has_name names) (sym same) ∙ sym there)
  by_test false h = sym (or_none (first_in names values other))

-- ---- a table of the first of many

-- a table while it is made: what is noted, and else what the rest says, is what all say
pub record IsNoting (X : Type 0) (table : FirstValues X) (rest all : List ℕ → Option X) : Type 0 where
  pub even : IsEven table
  pub so_far : (n : List ℕ) → option_or (value_in table n) (rest n) ≡ all n

pub starts : {X : Type 0} (now rest : List ℕ → Option X) → ((n : List ℕ) → now n ≡ None) → (n : List ℕ) → option_or (now n) (rest n) ≡ rest n
starts {X} now rest none n = ap (λ (o : Option X). option_or o (rest n)) (none n)

-- a value that is noted under a new name
pub new_noted : {X : Type 0} (names grown : List (List ℕ)) (values more : List X) (name other : List ℕ) (value : X) → length names ≡ length values
    → grown ≡ with_name names name → more ≡ values ++ value ∷ [] → false ≡ has_name names name
    → first_in grown more other ≡ option_or (first_in names values other) (cond (bytes_eq name other) (Some value) None)
new_noted {X} names grown values more name other value even e v free =
    ap₂ (λ (ns : List (List ℕ)) (vs : List X). first_in ns vs other) (e ∙ ap (λ (b : Bool). cond b names (names ++ name ∷ [])) (sym free)) v
    ∙ noted_new names values name other value even
