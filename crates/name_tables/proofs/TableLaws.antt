-- Tables of values by name.
use Rattle.std.proofs.Common.{◌≡◌, ◌++◌, ◌∷◌, ◌||◌, ◌+◌, [], ℕ, suc, nat_lt, List, Bool, true, false, cond, map, take, length, Option, Some, None, refl, ap, ap₂, sym, subst, ◌∙◌, append-nil, length-append, arith}
use Rattle.std.specs.Prelude.{bytes_eq, slice_get, is_some}
use Rattle.std.specs.List.{cons_option}
use Rattle.std.specs.Option.{option_or}
use Rattle.std.proofs.lemmas.Bool.Decides.{nat_tests}
use Rattle.std.proofs.lemmas.List.Elements.{filter_map-append}
use Rattle.std.proofs.lemmas.Slice.Eq.{bytes_eq-Decides}
use Rattle.names.proofs.NameLaws.{bytes_eq-sym, with_front}
use Rattle.names.specs.Names.{with_name}
use Rattle.name_tables.proofs.FirstNotes.{noted_new}
use Rattle.name_tables.specs.Firsts.{first_in}
use Rattle.name_tables.specs.Tables.{Adds, HasEntries, IsTable, Named, named, values_of}
use Rattle.name_tables.specs.declared.table.NameTable.{NameTable}
use Rattle.vrt_model.proofs.Lists.{take_one}
use Rattle.vrt_model.specs.Lists.{has_name}

-- a name has a value exactly where it is there
has_value : {V : Type 0} (names : List (List ℕ)) (values : List V) (name : List ℕ) → length names ≡ length values → is_some (first_in names values name) ≡ has_name names name
has_value [] values name e = refl
has_value (n ∷ names) [] name e = absurd (omega arith)
has_value {V} (n ∷ names) (v ∷ values) name e =
    by_test (bytes_eq name n) (first_in names values name) ∙ ap (λ (b : Bool). bytes_eq name n || b) (has_value names values name (omega arith)) where
      by_test : (b : Bool) (o : Option V) → is_some (cond b (Some v) o) ≡ (b || is_some o)
      by_test true o = refl
      by_test false o = refl

-- so too where the name is another that is the same
same_value : {V : Type 0} (entries : List (Named V)) (names : List (List ℕ)) (values : List V) (again : List (List ℕ)) (n name : List ℕ) (b : Bool) → HasEntries entries names values again
    → has_name names n ≡ b → bytes_eq n name ≡ true → is_some (slice_get (values_of entries name) 0) ≡ b
same_value entries names values again n name b t h e =
    ap is_some (sym (t.first name)) ∙ has_value names values name t.even ∙ ap (has_name names) (sym ((bytes_eq-Decides n name).0 e)) ∙ h

-- ---- one value more

value_more : {V : Type 0} (entries : List (Named V)) (n : List ℕ) (v : V) (name : List ℕ)
    → values_of (entries ++ named n v ∷ []) name ≡ values_of entries name ++ cons_option (cond (bytes_eq n name) (Some v) None) []
value_more {V} entries n v name = filter_map-append (λ (e : Named V). cond (bytes_eq e.name name) (Some e.value) None) entries (named n v ∷ [])

head_kept : {V : Type 0} (vs : List V) (b : Bool) (v : V) → (b ≡ true → is_some (slice_get vs 0) ≡ true) → slice_get vs 0 ≡ slice_get (vs ++ cons_option (cond b (Some v) None) []) 0
head_kept (x ∷ vs) b v h = refl
head_kept [] true v h = let e = h refl in cc
head_kept [] false v h = refl

two_there : {V : Type 0} (x v : V) (vs : List V) → true ≡ nat_lt 1 (suc (length (vs ++ v ∷ [])))
two_there x v vs = rw (length-append vs (v ∷ [])) (grind (arith, nat_tests))

second_kept : {V : Type 0} (vs : List V) (b : Bool) (v : V) → (b ≡ true → is_some (slice_get vs 0) ≡ true) → (b || nat_lt 1 (length vs)) ≡ nat_lt 1 (length (vs ++ cons_option (cond b (Some v) None) []))
second_kept vs false v h = ap (λ l. nat_lt 1 (length l)) (sym (append-nil vs))
second_kept [] true v h = let e = h refl in cc
second_kept (x ∷ vs) true v h = two_there x v vs

-- under a name that is there
pub kept : {V : Type 0} (entries : List (Named V)) (names : List (List ℕ)) (values : List V) (again more : List (List ℕ)) (n : List ℕ) (v : V) → true ≡ has_name names n → more ≡ with_name again n
    → HasEntries entries names values again → HasEntries (entries ++ named n v ∷ []) names values more
kept {V} entries names values again more n v h e t = record {
  even = t.even;
  first = λ name.
      t.first name ∙ head_kept (values_of entries name) (bytes_eq n name) v (same_value entries names values again n name true t (sym h)) ∙ ap (λ (vs : List V). slice_get vs 0) (sym (value_more entries n v name));
  second = λ name.
      ap (λ (ns : List (List ℕ)). has_name ns name) e ∙ with_front again n name ∙ ap₂ ◌||◌ (bytes_eq-sym name n) (t.second name)
      ∙ second_kept (values_of entries name) (bytes_eq n name) v (same_value entries names values again n name true t (sym h))
      ∙ ap (λ (vs : List V). nat_lt 1 (length vs)) (sym (value_more entries n v name));
}

head_more : {V : Type 0} (vs : List V) (o : Option V) → option_or (slice_get vs 0) o ≡ slice_get (vs ++ cons_option o []) 0
head_more [] None = refl
head_more [] (Some v) = refl
head_more (x ∷ vs) o = refl

second_more : {V : Type 0} (vs : List V) (b : Bool) (v : V) → (b ≡ true → is_some (slice_get vs 0) ≡ false) → nat_lt 1 (length vs) ≡ nat_lt 1 (length (vs ++ cons_option (cond b (Some v) None) []))
second_more vs false v h = ap (λ l. nat_lt 1 (length l)) (sym (append-nil vs))
second_more [] true v h = refl
second_more (x ∷ vs) true v h = let e = h refl in cc

-- under a name that is not there
pub added : {V : Type 0} (entries : List (Named V)) (names grown : List (List ℕ)) (values more : List V) (again : List (List ℕ)) (n : List ℕ) (v : V) → false ≡ has_name names n
    → grown ≡ with_name names n → more ≡ values ++ v ∷ [] → HasEntries entries names values again → HasEntries (entries ++ named n v ∷ []) grown more again
added {V} entries names grown values more again n v h e f t =
    subst (λ (ns : List (List ℕ)). HasEntries (entries ++ named n v ∷ []) ns more again) (sym (e ∙ ap (λ (b : Bool). cond b names (names ++ n ∷ [])) (sym h)))
    (subst (λ (vs : List V). HasEntries (entries ++ named n v ∷ []) (names ++ n ∷ []) vs again) (sym f) record {
      even = length-append names (n ∷ []) ∙ ap (λ k. k + 1) t.even ∙ sym (length-append values (v ∷ []));
      first = λ name.
          noted_new names values n name v t.even ∙ ap (λ (o : Option V). option_or o (cond (bytes_eq n name) (Some v) None)) (t.first name)
          ∙ head_more (values_of entries name) (cond (bytes_eq n name) (Some v) None) ∙ ap (λ (vs : List V). slice_get vs 0) (sym (value_more entries n v name));
      second = λ name.
          t.second name ∙ second_more (values_of entries name) (bytes_eq n name) v (same_value entries names values again n name false t (sym h)) ∙ ap (λ (vs : List V). nat_lt 1 (length vs)) (sym (value_more entries n v name));
    })

-- ---- tables that grow item by item

map_end : {X Y : Type 0} (f : X → Y) (xs : List X) (x : X) → map f (xs ++ x ∷ []) ≡ map f xs ++ f x ∷ []
map_end f [] x = refl
map_end f (y ∷ xs) x = ap (λ rest. f y ∷ rest) (map_end f xs x)

-- one more item gives a value
pub more_named : {X V : Type 0} (f : X → Named V) (xs : List X) (i : ℕ) (x : X) (name : List ℕ) (value : V) (t u : NameTable V) → slice_get xs i ≡ Some x → named name value ≡ f x
    → IsTable (map f (take i xs)) t → Adds name value t u → IsTable (map f (take (i + 1) xs)) u
more_named {X} {V} f xs i x name value t u at is before grows =
    subst (λ (es : List (Named V)). IsTable es u) (ap (λ (e : Named V). map f (take i xs) ++ e ∷ []) is ∙ sym (map_end f (take i xs) x) ∙ ap (map f) (sym (take_one xs i x at))) (grows (map f (take i xs)) before)
