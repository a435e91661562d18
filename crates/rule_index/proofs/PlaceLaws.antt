-- The places of rules, while they are added by the cells of the rules.
use Rattle.std.proofs.Common.{◌≡◌, ◌<◌, ◌+◌, ◌++◌, ◌∷◌, [], ℕ, List, Bool, true, false, cond, map, filter, length, get_or, set, drop, Option, Some, None, refl, ap, ap₂, sym, ◌∙◌, append-nil, append_assoc, length-append, arith}
use Rattle.std.specs.Prelude.{bytes_eq, slice_get, option_and_then, unwrap_or}
use Rattle.std.specs.List.{position}
use Rattle.std.specs.Option.{option_or}
use Rattle.std.proofs.lemmas.List.{drop_more, get_or-set_other, get_or-set_same, map-append}
use Rattle.std.proofs.lemmas.List.Quantifiers.{position-Some}
use Rattle.std.proofs.lemmas.Option.{slice_get-get_or, unwrap_or-slice_get}
use Rattle.std.proofs.lemmas.Slice.Eq.{bytes_eq-Decides}
use Rattle.names.specs.Names.{with_name}
use Rattle.name_tables.proofs.FirstNotes.{first_is, noted_new}
use Rattle.rule_index.proofs.NameLaws.{no_place, one_place}
use Rattle.name_tables.specs.Firsts.{first_in}

-- what stands under a name
abbrev pub under : List (List ℕ) → List (List ℕ) → List ℕ → List ℕ
under names groups name = unwrap_or (first_in names groups name) []

pub under_at : (names groups : List (List ℕ)) (name : List ℕ) (at : ℕ) → position (bytes_eq name) names ≡ Some at → under names groups name ≡ get_or groups at []
under_at names groups name at e =
    ap (λ (o : Option (List ℕ)). unwrap_or o []) (sym (first_is names groups name) ∙ ap (option_and_then (slice_get groups)) e) ∙ unwrap_or-slice_get groups at []

pub under_none : (names groups : List (List ℕ)) (name : List ℕ) → position (bytes_eq name) names ≡ None → under names groups name ≡ []
under_none names groups name e =
    ap (λ (o : Option (List ℕ)). unwrap_or o []) (sym (first_is names groups name) ∙ ap (option_and_then (slice_get groups)) e)

-- ---- one place more

-- under a name that has a group
pub placed_there : (names groups grown : List (List ℕ)) (cell other : List ℕ) (at place : ℕ) → Some at ≡ position (bytes_eq cell) names → length names ≡ length groups
    → grown ≡ set groups at (get_or groups at [] ++ place ∷ [])
    → under names grown other ≡ under names groups other ++ cond (bytes_eq cell other) (place ∷ []) []
placed_there names groups grown cell other at place e even is =
    ap (λ (gs : List (List ℕ)). under names gs other) is ∙ by_test (bytes_eq cell other) refl where
      more : List ℕ
      more = get_or groups at [] ++ place ∷ []

      low : at < length groups
      low = let lt = (position-Some (bytes_eq cell) names at [] (sym e)).0 in omega (arith, lt, even)

      apart : (o : Option ℕ) → position (bytes_eq other) names ≡ o → bytes_eq cell other ≡ false → under names (set groups at more) other ≡ under names groups other
      apart None p ne = under_none names (set groups at more) other p ∙ sym (under_none names groups other p)
      apart (Some m) p ne =
          under_at names (set groups at more) other m p
          ∙ get_or-set_other groups at m more [] (λ same. let h = one_place names cell other m (sym e ∙ ap Some (sym same)) p in cc)
          ∙ sym (under_at names groups other m p)

      by_test : (b : Bool) → bytes_eq cell other ≡ b → under names (set groups at more) other ≡ under names groups other ++ cond b (place ∷ []) []
      by_test true h =
          let here : position (bytes_eq other) names ≡ Some at = ap (λ (n : List ℕ). position (bytes_eq n) names) (sym ((bytes_eq-Decides cell other).0 h)) ∙ sym e in
          under_at names (set groups at more) other at here ∙ get_or-set_same groups at more [] low
          ∙ ap (λ (g : List ℕ). g ++ place ∷ []) (sym (under_at names groups other at here))
      by_test false h = apart (position (bytes_eq other) names) refl h ∙ sym (append-nil (under names groups other))

-- under a name that is new
pub placed_new : (names more groups grown : List (List ℕ)) (cell other : List ℕ) (place : ℕ) → None ≡ position (bytes_eq cell) names → length names ≡ length groups
    → more ≡ with_name names cell → grown ≡ groups ++ (place ∷ []) ∷ []
    → under more grown other ≡ under names groups other ++ cond (bytes_eq cell other) (place ∷ []) []
placed_new names more groups grown cell other place e even m g =
    ap₂ (λ (ns gs : List (List ℕ)). under ns gs other) (m ∙ ap (λ (b : Bool). cond b names (names ++ cell ∷ [])) (no_place names cell (sym e))) g
    ∙ ap (λ (o : Option (List ℕ)). unwrap_or o []) (noted_new names groups cell other (place ∷ []) even)
    ∙ by_test (bytes_eq cell other) (first_in names groups other) (λ h. gone h) where
      gone : bytes_eq cell other ≡ true → first_in names groups other ≡ None
      gone h =
          sym (first_is names groups other)
          ∙ ap (λ (n : List ℕ). option_and_then (slice_get groups) (position (bytes_eq n) names)) (sym ((bytes_eq-Decides cell other).0 h))
          ∙ ap (option_and_then (slice_get groups)) (sym e)

      by_test : (b : Bool) (o : Option (List ℕ)) → (b ≡ true → o ≡ None)
          → unwrap_or (option_or o (cond b (Some (place ∷ [])) None)) [] ≡ unwrap_or o [] ++ cond b (place ∷ []) []
      by_test true None free = refl
      by_test true (Some x) free = let h = free refl in cc
      by_test false None free = refl
      by_test false (Some x) free = sym (append-nil x)

-- each name still has its group
pub paired_new : (names more groups grown : List (List ℕ)) (cell : List ℕ) (place : ℕ) → None ≡ position (bytes_eq cell) names → length names ≡ length groups
    → more ≡ with_name names cell → grown ≡ groups ++ (place ∷ []) ∷ [] → length more ≡ length grown
paired_new names more groups grown cell place e even m g =
    let l : length more ≡ length names + 1 = ap length (m ∙ ap (λ (b : Bool). cond b names (names ++ cell ∷ [])) (no_place names cell (sym e))) ∙ length-append names (cell ∷ []) in
    let r : length grown ≡ length groups + 1 = ap length g ∙ length-append groups ((place ∷ []) ∷ []) in
    omega (arith, l, r, even)

-- ---- all rules

-- one rule more, while places are added: the rules at the places so far, and those of the rest, are the rules of the cell
pub placed_on : {R : Type 0} (cell_of : R → List ℕ) (rules : List R) (i : ℕ) (r : R) (old new : List ℕ → List ℕ) (name : List ℕ) → i < length rules → r ≡ get_or rules i r → name ≡ cell_of r
    → ((n : List ℕ) → new n ≡ old n ++ cond (bytes_eq name n) (i ∷ []) [])
    → ((n : List ℕ) → map (slice_get rules) (old n) ++ map Some (filter (λ q. bytes_eq (cell_of q) n) (drop i rules)) ≡ map Some (filter (λ q. bytes_eq (cell_of q) n) rules))
    → (n : List ℕ) → map (slice_get rules) (new n) ++ map Some (filter (λ q. bytes_eq (cell_of q) n) (drop (i + 1) rules)) ≡ map Some (filter (λ q. bytes_eq (cell_of q) n) rules)
placed_on {R} cell_of rules i r old new name lt here named e so_far n =
    ap (λ (ps : List ℕ). map (slice_get rules) ps ++ rest) (e n ∙ ap (λ (m : List ℕ). old n ++ cond (bytes_eq m n) (i ∷ []) []) named)
    ∙ ap (λ (os : List (Option R)). os ++ rest) (map-append (slice_get rules) (old n) (cond (bytes_eq (cell_of r) n) (i ∷ []) []))
    ∙ append_assoc (map (slice_get rules) (old n)) (map (slice_get rules) (cond (bytes_eq (cell_of r) n) (i ∷ []) [])) rest
    ∙ ap (λ (os : List (Option R)). map (slice_get rules) (old n) ++ os) (by_test (bytes_eq (cell_of r) n))
    ∙ ap (λ (rs : List R). map (slice_get rules) (old n) ++ map Some (filter (λ q. bytes_eq (cell_of q) n) rs)) (sym left)
    ∙ so_far n where
      behind : List R
      behind = filter (λ q. bytes_eq (cell_of q) n) (drop (i + 1) rules)

      rest : List (Option R)
      rest = map Some behind

      left : drop i rules ≡ r ∷ drop (i + 1) rules
      left = drop_more rules i r lt ∙ ap (λ (q : R). q ∷ drop (i + 1) rules) (sym here)

      by_test : (b : Bool) → map (slice_get rules) (cond b (i ∷ []) []) ++ rest ≡ map Some (cond b (r ∷ behind) behind)
      by_test true = ap (λ (o : Option R). o ∷ rest) (slice_get-get_or rules i r lt ∙ ap Some (sym here))
      by_test false = refl
