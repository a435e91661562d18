-- Models that are noted by their names.
use Rattle.std.proofs.Common.{◌≡◌, ◌<◌, ◌≤◌, ◌+◌, ◌++◌, ◌∷◌, [], ℕ, suc, nat_lt, List, Bool, true, false, cond, take, length, get_or, Option, Some, None, option_map, refl, ap, ap₂, sym, subst, ◌∙◌, arith, length-take-le}
use Rattle.std.specs.Prelude.{bytes_eq, filter, is_some, slice_get, ◌==◌}
use Rattle.std.specs.List.{cons_option, position}
use Rattle.std.proofs.lemmas.Bool.Decides.{nat_tests}
use Rattle.std.proofs.lemmas.List.{take_all, take_more}
use Rattle.name_tables.specs.Firsts.{value_in}
use Rattle.name_tables.specs.Tables.{Adds, IsTable, Named, named, values_of}
use Rattle.name_tables.specs.declared.table.NameTable.{NameTable}
use Rattle.names.proofs.PlaceLaws.{place_cons}
use Rattle.prepared_tables.specs.ModelNames.{AreNoted, low_name}
use Rattle.vrt_model.specs.Lists.{has_name}
use Rattle.vrt_model.specs.PairedPorts.{has_lower_name}
use Rattle.vrt_model.specs.declared.blif.BlifModel.{BlifModel}

-- ---- models by their names, each with its number, from number i on

abbrev pub numbered : (BlifModel → List ℕ) → ℕ → List BlifModel → List (Named ℕ)
numbered key i [] = []
numbered key i (m ∷ models) = named (key m) i ∷ numbered key (suc i) models

numbered_end : (key : BlifModel → List ℕ) (i : ℕ) (models : List BlifModel) (m : BlifModel) (n : ℕ) → n ≡ i + length models
    → numbered key i (models ++ m ∷ []) ≡ numbered key i models ++ named (key m) n ∷ []
numbered_end key i [] m n e = let same : i ≡ n = omega (arith, e) in ap (λ (k : ℕ). named (key m) k ∷ []) same
numbered_end key i (x ∷ models) m n e = ap (λ (es : List (Named ℕ)). named (key x) i ∷ es) (numbered_end key (suc i) models m n (omega (arith, e)))

-- the first of a name is the first model that has it
first_numbered : (key : BlifModel → List ℕ) (name : List ℕ) (i : ℕ) (models : List BlifModel)
    → slice_get (values_of (numbered key i models) name) 0 ≡ option_map (λ (k : ℕ). i + k) (position (λ (m : BlifModel). bytes_eq (key m) name) models)
first_numbered key name i [] = refl
first_numbered key name i (m ∷ models) =
    by_test (bytes_eq (key m) name) (position (λ (x : BlifModel). bytes_eq (key x) name) models) (first_numbered key name (suc i) models)
    ∙ ap (option_map (λ (k : ℕ). i + k)) (sym (place_cons (λ (x : BlifModel). bytes_eq (key x) name) m models)) where
      rest : List ℕ
      rest = values_of (numbered key (suc i) models) name

      by_test : (b : Bool) (o : Option ℕ) → slice_get rest 0 ≡ option_map (λ (k : ℕ). suc i + k) o
          → slice_get (cons_option (cond b (Some i) None) rest) 0 ≡ option_map (λ (k : ℕ). i + k) (cond b (Some 0) (option_map suc o))
      by_test true o e = let same : i ≡ i + 0 = omega arith in ap Some same
      by_test false None e = e
      by_test false (Some k) e = let same : suc i + k ≡ i + suc k = omega arith in e ∙ ap Some same

from_first : (o : Option ℕ) → option_map (λ (k : ℕ). 0 + k) o ≡ o
from_first None = refl
from_first (Some n) = let same : 0 + n ≡ n = omega arith in ap Some same

-- as many have a name as models have it
count_numbered : (key : BlifModel → List ℕ) (name : List ℕ) (i : ℕ) (models : List BlifModel)
    → length (values_of (numbered key i models) name) ≡ length (filter (λ (m : BlifModel). bytes_eq (key m) name) models)
count_numbered key name i [] = refl
count_numbered key name i (m ∷ models) = by_test (bytes_eq (key m) name) _ _ (count_numbered key name (suc i) models) where
  by_test : (b : Bool) (ns : List ℕ) (ms : List BlifModel) → length ns ≡ length ms → length (cons_option (cond b (Some i) None) ns) ≡ length (cond b (m ∷ ms) ms)
  by_test true ns ms e = ap suc e
  by_test false ns ms e = e

-- ---- model by model

pub more_noted : (key : BlifModel → List ℕ) (models : List BlifModel) (i : ℕ) (m : BlifModel) (name : List ℕ) (number : ℕ) (t u : NameTable ℕ) → i < length models → m ≡ get_or models i m → name ≡ key m → number ≡ i
    → IsTable (numbered key 0 (take i models)) t → Adds name number t u → IsTable (numbered key 0 (take (i + 1) models)) u
more_noted key models i m name number t u lt here is same before adds =
    let count : length (take i models) ≡ i = length-take-le i models (omega (arith, lt)) in
    let taken : take (i + 1) models ≡ take i models ++ m ∷ [] = take_more models i m lt ∙ ap (λ (x : BlifModel). take i models ++ x ∷ []) (sym here) in
    let all : numbered key 0 (take (i + 1) models) ≡ numbered key 0 (take i models) ++ named name number ∷ [] =
    ap (numbered key 0) taken ∙ numbered_end key 0 (take i models) m number (omega (arith, same, count)) ∙ ap (λ (n : List ℕ). numbered key 0 (take i models) ++ named n number ∷ []) (sym is) in
    subst (λ (es : List (Named ℕ)). IsTable es u) (sym all) (adds (numbered key 0 (take i models)) before)

pub all_noted : (key : BlifModel → List ℕ) (models : List BlifModel) (i : ℕ) (t : NameTable ℕ) → length models ≤ i → IsTable (numbered key 0 (take i models)) t → AreNoted key models t
all_noted key models i t past so_far =
    let is : IsTable (numbered key 0 models) t = subst (λ (ms : List BlifModel). IsTable (numbered key 0 ms) t) (take_all i models past) so_far in record {
      even = is.even;
      first = λ name. is.first name ∙ first_numbered key name 0 models ∙ from_first (position (λ (m : BlifModel). bytes_eq (key m) name) models);
      again = λ name. is.second name ∙ ap (nat_lt 1) (count_numbered key name 0 models);
    }

-- ---- the only model of a name

abbrev some_item : {X : Type 0} → List X → Bool
some_item [] = false
some_item (x ∷ xs) = true

place_some : {X : Type 0} (p : X → Bool) (xs : List X) → is_some (position p xs) ≡ some_item (filter p xs)
place_some p [] = refl
place_some {X} p (x ∷ xs) = ap is_some (place_cons p x xs) ∙ by_test (p x) (position p xs) (place_some p xs) where
  by_test : (b : Bool) (o : Option ℕ) → is_some o ≡ some_item (filter p xs) → is_some (cond b (Some 0) (option_map suc o)) ≡ some_item (cond b (x ∷ filter p xs) (filter p xs))
  by_test true o e = refl
  by_test false (Some n) e = e
  by_test false None e = e

only_by : {X : Type 0} (xs : List X) (o : Option ℕ) → is_some o ≡ some_item xs → cond (nat_lt 1 (length xs)) None o ≡ cond (length xs == 1) o None
only_by [] None e = refl
only_by [] (Some n) e = cc
only_by (x ∷ []) o e = refl
only_by {X} (x ∷ y ∷ xs) o e =
    let more : nat_lt 1 (suc (suc (length xs))) ≡ true = grind (arith, nat_tests) in
    let other : (suc (suc (length xs)) == 1) ≡ false = grind (arith, nat_tests) in
    ap (λ (b : Bool). cond b None o) more ∙ sym (ap (λ (b : Bool). cond b o None) other)

pub only_noted : (models : List BlifModel) (t : NameTable ℕ) (name : List ℕ) → AreNoted low_name models t
    → cond (has_name t.again name) None (value_in t.firsts name) ≡ cond (length (filter (has_lower_name name) models) == 1) (position (has_lower_name name) models) None
only_noted models t name is =
    ap₂ (λ (b : Bool) (o : Option ℕ). cond b None o) (is.again name) (is.first name)
    ∙ only_by (filter (has_lower_name name) models) (position (has_lower_name name) models) (place_some (has_lower_name name) models)
