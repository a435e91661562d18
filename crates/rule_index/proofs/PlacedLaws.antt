-- What is made of the rules at the places of a cell is what is made of the rules of the cell.
use Rattle.std.proofs.Common.{◌≡◌, ◌∷◌, ◌||◌, ◌&&◌, [], ℕ, List, Bool, true, false, cond, map, filter, drop, Option, Some, None, option_map, refl, ap, ap₂, ◌∙◌}
use Rattle.std.specs.Prelude.{bytes_eq, filter_map, find, option_and_then, slice_get, unwrap_or}
use Rattle.std.specs.List.{cons_option, list_any}
use Rattle.std.proofs.lemmas.Option.{same_Some}
use Rattle.names.proofs.FilterLaws.{first_is_found}

-- two lists that are the same have the same first item, and the same rest
pub first_same : {X : Type 0} (x y : X) (xs ys : List X) → x ∷ xs ≡ y ∷ ys → x ≡ y
first_same {X} x y xs ys e = same_Some x y (ap (λ (zs : List X). slice_get zs 0) e)

pub rest_same : {X : Type 0} (x y : X) (xs ys : List X) → x ∷ xs ≡ y ∷ ys → xs ≡ ys
rest_same {X} x y xs ys e = ap (λ (zs : List X). drop 1 zs) e

-- ---- the items at places

pub values_at : {R V : Type 0} (g : R → V) (f : ℕ → Option R) (places : List ℕ) (own : List R) → map f places ≡ map Some own → filter_map (λ p. option_map g (f p)) places ≡ map g own
values_at g f [] [] e = refl
values_at g f [] (r ∷ own) e = cc
values_at g f (p ∷ places) [] e = cc
values_at {R} {V} g f (p ∷ places) (r ∷ own) e =
    ap₂ (λ (o : Option R) (vs : List V). cons_option (option_map g o) vs) (first_same (f p) (Some r) (map f places) (map Some own) e)
    (values_at g f places own (rest_same (f p) (Some r) (map f places) (map Some own) e))

pub any_at : {R : Type 0} (test : R → Bool) (f : ℕ → Option R) (places : List ℕ) (own : List R) → map f places ≡ map Some own
    → list_any (λ p. unwrap_or (option_map test (f p)) false) places ≡ list_any test own
any_at test f [] [] e = refl
any_at test f [] (r ∷ own) e = cc
any_at test f (p ∷ places) [] e = cc
any_at {R} test f (p ∷ places) (r ∷ own) e =
    ap₂ (λ (o : Option R) (b : Bool). unwrap_or (option_map test o) false || b) (first_same (f p) (Some r) (map f places) (map Some own) e)
    (any_at test f places own (rest_same (f p) (Some r) (map f places) (map Some own) e))

-- the first of the items that passes a test
found_at : {R : Type 0} (test : R → Bool) (f : ℕ → Option R) (places : List ℕ) (own : List R) → map f places ≡ map Some own
    → option_and_then f (find (λ p. unwrap_or (option_map test (f p)) false) places) ≡ find test own
found_at test f [] [] e = refl
found_at test f [] (r ∷ own) e = cc
found_at test f (p ∷ places) [] e = cc
found_at {R} test f (p ∷ places) (r ∷ own) e =
    let first = first_same (f p) (Some r) (map f places) (map Some own) e in
    let rest = found_at test f places own (rest_same (f p) (Some r) (map f places) (map Some own) e) in
    ap (λ (b : Bool). option_and_then f (cond b (Some p) (find (λ q. unwrap_or (option_map test (f q)) false) places))) (ap (λ (o : Option R). unwrap_or (option_map test o) false) first)
    ∙ by_test (test r) first rest
  where
    by_test : (b : Bool) → f p ≡ Some r → option_and_then f (find (λ q. unwrap_or (option_map test (f q)) false) places) ≡ find test own
        → option_and_then f (cond b (Some p) (find (λ q. unwrap_or (option_map test (f q)) false) places)) ≡ cond b (Some r) (find test own)
    by_test true first rest = first
    by_test false first rest = rest

-- ---- the items that pass a test

values_of : {R V : Type 0} (test : R → Bool) (g : R → V) (rules : List R) → map g (filter test rules) ≡ filter_map (λ r. cond (test r) (Some (g r)) None) rules
values_of test g [] = refl
values_of {R} {V} test g (r ∷ rules) = by_test (test r) ∙ ap (cons_option (cond (test r) (Some (g r)) None)) (values_of test g rules) where
  by_test : (b : Bool) → map g (cond b (r ∷ filter test rules) (filter test rules)) ≡ cons_option (cond b (Some (g r)) None) (map g (filter test rules))
  by_test true = refl
  by_test false = refl

any_of : {R : Type 0} (test more : R → Bool) (rules : List R) → list_any more (filter test rules) ≡ list_any (λ r. test r && more r) rules
any_of test more [] = refl
any_of {R} test more (r ∷ rules) = by_test (test r) ∙ ap (λ (b : Bool). (test r && more r) || b) (any_of test more rules) where
  by_test : (b : Bool) → list_any more (cond b (r ∷ filter test rules) (filter test rules)) ≡ ((b && more r) || list_any more (filter test rules))
  by_test true = refl
  by_test false = refl

found_of : {R : Type 0} (test more : R → Bool) (rules : List R) → find more (filter test rules) ≡ find (λ r. test r && more r) rules
found_of test more [] = refl
found_of {R} test more (r ∷ rules) = by_test (test r) (found_of test more rules) where
  by_test : (b : Bool) → find more (filter test rules) ≡ find (λ (x : R). test x && more x) rules
      → find more (cond b (r ∷ filter test rules) (filter test rules)) ≡ cond (b && more r) (Some r) (find (λ (x : R). test x && more x) rules)
  by_test true e = ap (λ (o : Option R). cond (more r) (Some r) o) e
  by_test false e = e

-- ---- the rules of a cell

-- a value for each rule of a cell
pub values_placed : {R V : Type 0} (cell_of : R → List ℕ) (g : R → V) (rules : List R) (places : List ℕ) (cell : List ℕ) → map (slice_get rules) places ≡ map Some (filter (λ r. bytes_eq (cell_of r) cell) rules)
    → filter_map (λ p. option_map g (slice_get rules p)) places ≡ filter_map (λ r. cond (bytes_eq (cell_of r) cell) (Some (g r)) None) rules
values_placed cell_of g rules places cell e =
    values_at g (slice_get rules) places (filter (λ r. bytes_eq (cell_of r) cell) rules) e ∙ values_of (λ r. bytes_eq (cell_of r) cell) g rules

-- whether a rule of a cell passes a test
pub any_placed : {R : Type 0} (cell_of : R → List ℕ) (test : R → Bool) (rules : List R) (places : List ℕ) (cell : List ℕ) → map (slice_get rules) places ≡ map Some (filter (λ r. bytes_eq (cell_of r) cell) rules)
    → list_any (λ p. unwrap_or (option_map test (slice_get rules p)) false) places ≡ list_any (λ r. bytes_eq (cell_of r) cell && test r) rules
any_placed cell_of test rules places cell e =
    any_at test (slice_get rules) places (filter (λ r. bytes_eq (cell_of r) cell) rules) e ∙ any_of (λ r. bytes_eq (cell_of r) cell) test rules

-- the first rule of a cell
pub first_placed : {R : Type 0} (cell_of : R → List ℕ) (rules : List R) (places : List ℕ) (cell : List ℕ) → map (slice_get rules) places ≡ map Some (filter (λ r. bytes_eq (cell_of r) cell) rules)
    → option_and_then (slice_get rules) (slice_get places 0) ≡ find (λ r. bytes_eq (cell_of r) cell) rules
first_placed {R} cell_of rules places cell e =
    first_at (slice_get rules) places ∙ ap (λ (os : List (Option R)). option_and_then (λ o. o) (slice_get os 0)) e ∙ first_some (filter (λ r. bytes_eq (cell_of r) cell) rules)
    ∙ first_is_found (λ r. bytes_eq (cell_of r) cell) rules where
      first_at : (f : ℕ → Option R) (ps : List ℕ) → option_and_then f (slice_get ps 0) ≡ option_and_then (λ o. o) (slice_get (map f ps) 0)
      first_at f [] = refl
      first_at f (p ∷ ps) = refl

      first_some : (rs : List R) → option_and_then (λ (o : Option R). o) (slice_get (map Some rs) 0) ≡ slice_get rs 0
      first_some [] = refl
      first_some (r ∷ rs) = refl

-- the first rule of a cell that passes a test
pub found_placed : {R : Type 0} (cell_of : R → List ℕ) (test : R → Bool) (rules : List R) (places : List ℕ) (cell : List ℕ) → map (slice_get rules) places ≡ map Some (filter (λ r. bytes_eq (cell_of r) cell) rules)
    → option_and_then (slice_get rules) (find (λ p. unwrap_or (option_map test (slice_get rules p)) false) places) ≡ find (λ r. bytes_eq (cell_of r) cell && test r) rules
found_placed cell_of test rules places cell e =
    found_at test (slice_get rules) places (filter (λ r. bytes_eq (cell_of r) cell) rules) e ∙ found_of (λ r. bytes_eq (cell_of r) cell) test rules
