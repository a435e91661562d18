-- Counts of the items that pass a test, where names do not repeat.
use Rattle.std.proofs.Common.{◌≡◌, ◌<◌, ◌≤◌, ◌+◌, ◌++◌, ◌∷◌, ◌||◌, inl, inr, [], ℕ, zero, suc, not, List, map, flat_map, filter, length, Option, Some, None, Bool, true, false, refl, ap, ap₂, sym, ◌∙◌, arith, cond}
use Rattle.std.specs.Prelude.{bytes_eq, count_by, is_some, slice_get, unwrap_or, ◌==◌}
use Rattle.std.proofs.lemmas.Bool.{and_parts, cases_eq}
use Rattle.std.proofs.lemmas.List.Recursion.{is_count_by}
use Rattle.std.proofs.lemmas.Slice.Eq.{bytes_eq-Decides}
use Rattle.vrt_model.proofs.Tests.{bytes_eq-sym}
use Rattle.vrt_model.specs.Lists.{At, has_name, place_of}
use Rattle.names.proofs.ApartLaws.{NoRepeat}
use Rattle.names.proofs.FilterLaws.{has_name_filter}
use Rattle.blif_checks.specs.Mentions.{number_among}
use Rattle.names.proofs.PlaceLaws.{any_placed, at_among}
use Rattle.blif_checks.proofs.NoteLaws.{eq_no, eq_yes}

-- how many items pass
abbrev pub hits : {X : Type 0} → (X → Bool) → List X → ℕ
hits p [] = 0
hits p (x ∷ xs) = cond (p x) 1 0 + hits p xs

-- the sum over some items
abbrev pub total : {X : Type 0} → (X → ℕ) → List X → ℕ
total f [] = 0
total f (x ∷ xs) = f x + total f xs

pub hits_is : {X : Type 0} (p : X → Bool) (xs : List X) → hits p xs ≡ count_by p xs
hits_is p xs = is_count_by (λ ys. hits p ys) p refl (λ y ys. by_test (p y) (hits p ys)) xs where
  by_test : (b : Bool) (n : ℕ) → cond b 1 0 + n ≡ cond b (1 + n) n
  by_test true n = refl
  by_test false n = omega arith

pub hits_join : {X : Type 0} (p : X → Bool) (xs ys : List X) → hits p (xs ++ ys) ≡ hits p xs + hits p ys
hits_join p [] ys = omega arith
hits_join p (x ∷ xs) ys = let rest = hits_join p xs ys in omega (arith, rest)

pub hits_map : {X Y : Type 0} (p : Y → Bool) (f : X → Y) (xs : List X) → hits p (map f xs) ≡ hits (λ x. p (f x)) xs
hits_map p f [] = refl
hits_map p f (x ∷ xs) = ap (λ n. cond (p (f x)) 1 0 + n) (hits_map p f xs)

pub hits_flat : {X Y : Type 0} (p : Y → Bool) (f : X → List Y) (xs : List X) → hits p (flat_map f xs) ≡ total (λ x. hits p (f x)) xs
hits_flat p f [] = refl
hits_flat p f (x ∷ xs) = hits_join p (f x) (flat_map f xs) ∙ ap (λ n. hits p (f x) + n) (hits_flat p f xs)

-- tests that agree on the items
pub hits_same : {X : Type 0} (p q : X → Bool) (xs : List X) → ((i : ℕ) (x : X) → At xs i x → p x ≡ q x) → hits p xs ≡ hits q xs
hits_same p q [] same = refl
hits_same p q (x ∷ xs) same = ap₂ (λ (b : Bool) (n : ℕ). cond b 1 0 + n) (same 0 x refl) (hits_same p q xs (λ i y e. same (suc i) y e))

pub total_same : {X : Type 0} (f g : X → ℕ) (xs : List X) → ((i : ℕ) (x : X) → At xs i x → f x ≡ g x) → total f xs ≡ total g xs
total_same f g [] same = refl
total_same f g (x ∷ xs) same = ap₂ ◌+◌ (same 0 x refl) (total_same f g xs (λ i y e. same (suc i) y e))

pub total_join : {X : Type 0} (f : X → ℕ) (xs ys : List X) → total f (xs ++ ys) ≡ total f xs + total f ys
total_join f [] ys = omega arith
total_join f (x ∷ xs) ys = let rest = total_join f xs ys in omega (arith, rest)

pub total_flat : {X Y : Type 0} (g : Y → ℕ) (f : X → List Y) (xs : List X) → total g (flat_map f xs) ≡ total (λ x. total g (f x)) xs
total_flat g f [] = refl
total_flat g f (x ∷ xs) = total_join g (f x) (flat_map f xs) ∙ ap (λ n. total g (f x) + n) (total_flat g f xs)

pub total_both : {X : Type 0} (f g : X → ℕ) (xs : List X) → total (λ x. f x + g x) xs ≡ total f xs + total g xs
total_both f g [] = refl
total_both f g (x ∷ xs) = let rest = total_both f g xs in omega (arith, rest)

-- those that pass another test, and those that do not
pub hits_split : {X : Type 0} (p q : X → Bool) (xs : List X) → hits p xs ≡ hits p (filter q xs) + hits p (filter (λ x. not (q x)) xs)
hits_split p q [] = refl
hits_split {X} p q (x ∷ xs) = by_test (q x) (hits_split p q xs) where
  by_test : (b : Bool) → hits p xs ≡ hits p (filter q xs) + hits p (filter (λ x. not (q x)) xs)
      → cond (p x) 1 0 + hits p xs ≡ hits p (cond b (x ∷ filter q xs) (filter q xs)) + hits p (cond (not b) (x ∷ filter (λ x. not (q x)) xs) (filter (λ x. not (q x)) xs))
  by_test true e = omega (arith, e)
  by_test false e = omega (arith, e)

-- ---- names that do not repeat

-- what passes a stronger test passes both
kept_twice : (p q : List ℕ → Bool) → ((x : List ℕ) → q x ≡ true → p x ≡ true) → (xs : List (List ℕ)) → filter q (filter p xs) ≡ filter q xs
kept_twice p q more [] = refl
kept_twice p q more (x ∷ xs) = by_test (p x) (q x) refl refl (kept_twice p q more xs) where
  clash : p x ≡ false → q x ≡ true → ⊥
  clash a b = let both : true ≡ false = sym (more x b) ∙ a in cc

  by_test : (a b : Bool) → p x ≡ a → q x ≡ b → filter q (filter p xs) ≡ filter q xs → filter q (cond a (x ∷ filter p xs) (filter p xs)) ≡ cond (q x) (x ∷ filter q xs) (filter q xs)
  by_test true b h k e = ap (λ (rest : List (List ℕ)). cond (q x) (x ∷ rest) rest) e
  by_test false true h k e = absurd (clash h k)
  by_test false false h k e = e ∙ sym (ap (λ (b : Bool). cond b (x ∷ filter q xs) (filter q xs)) k)

-- those of one name all pass, or none
same_hits : (p : List ℕ → Bool) (n : List ℕ) (xs : List (List ℕ)) → hits p (filter (bytes_eq n) xs) ≡ cond (p n) (length (filter (bytes_eq n) xs)) 0
same_hits p n [] = none (p n) where
  none : (b : Bool) → let zero_is : ℕ = 0 in zero_is ≡ cond b 0 0
  none true = refl
  none false = refl
same_hits p n (x ∷ xs) = by_test (bytes_eq n x) refl (same_hits p n xs) where
  one_more : (b : Bool) (h k : ℕ) → h ≡ cond b k 0 → cond b 1 0 + h ≡ cond b (suc k) 0
  one_more true h k e = omega (arith, e)
  one_more false h k e = omega (arith, e)

  by_test : (b : Bool) → bytes_eq n x ≡ b → hits p (filter (bytes_eq n) xs) ≡ cond (p n) (length (filter (bytes_eq n) xs)) 0
      → hits p (cond b (x ∷ filter (bytes_eq n) xs) (filter (bytes_eq n) xs)) ≡ cond (p n) (length (cond b (x ∷ filter (bytes_eq n) xs) (filter (bytes_eq n) xs))) 0
  by_test true h e =
      ap (λ (y : List ℕ). cond (p y) 1 0 + hits p (filter (bytes_eq n) xs)) (sym ((bytes_eq-Decides n x).0 h))
      ∙ one_more (p n) (hits p (filter (bytes_eq n) xs)) (length (filter (bytes_eq n) xs)) e
  by_test false h e = e

-- of two names one is not the other
apart_from : (x : List ℕ) (xs : List (List ℕ)) (n : List ℕ) → has_name xs x ≡ false → has_name xs n ≡ true → bytes_eq n x ≡ false
apart_from x xs n out there = by_test (bytes_eq n x) refl where
  by_test : (b : Bool) → bytes_eq n x ≡ b → b ≡ false
  by_test true h = let both : true ≡ false = sym there ∙ ap (has_name xs) ((bytes_eq-Decides n x).0 h) ∙ out in cc
  by_test false h = refl

-- a list with the same names as one without repeats, each once, has as many that pass
pub hits_once : (p : List ℕ → Bool) (names others : List (List ℕ)) → NoRepeat names → ((n : List ℕ) → has_name names n ≡ true → length (filter (bytes_eq n) others) ≡ 1)
    → ((n : List ℕ) → has_name others n ≡ true → has_name names n ≡ true) → hits p others ≡ hits p names
hits_once p [] [] apart one within = refl
hits_once p [] (x ∷ others) apart one within =
    let both : false ≡ true = within x (ap (λ (b : Bool). b || has_name others x) ((bytes_eq-Decides x x).1 refl)) in cc
hits_once p (x ∷ names) others apart one within =
    hits_split p (bytes_eq x) others
    ∙ ap₂ ◌+◌
    (same_hits p x others ∙ ap (λ k. cond (p x) k 0) (one x (ap (λ (b : Bool). b || has_name names x) ((bytes_eq-Decides x x).1 refl))))
    (hits_once p names (filter (λ y. not (bytes_eq x y)) others) apart.1 later behind) where
      or_second : (a b : Bool) → b ≡ true → (a || b) ≡ true
      or_second true b e = refl
      or_second false b e = e

      later : (n : List ℕ) → has_name names n ≡ true → length (filter (bytes_eq n) (filter (λ y. not (bytes_eq x y)) others)) ≡ 1
      later n there =
          ap (λ (ys : List (List ℕ)). length ys)
          (kept_twice (λ y. not (bytes_eq x y)) (bytes_eq n)
          (λ y e. ap not (ap (bytes_eq x) (sym ((bytes_eq-Decides n y).0 e)) ∙ bytes_eq-sym x n ∙ apart_from x names n apart.0 there)) others)
          ∙ one n (or_second (bytes_eq n x) (has_name names n) there)

      not_not : (b : Bool) → not b ≡ true → b ≡ false
      not_not true e = cc
      not_not false e = refl

      behind : (n : List ℕ) → has_name (filter (λ y. not (bytes_eq x y)) others) n ≡ true → has_name names n ≡ true
      behind n e =
          let both = and_parts (not (bytes_eq x n)) (has_name others n) (sym (has_name_filter (λ y. not (bytes_eq x y)) others n) ∙ e) in
          ap (λ (b : Bool). b || has_name names n) (sym (bytes_eq-sym n x ∙ not_not (bytes_eq x n) both.0)) ∙ within n both.1

none_kept : (n : List ℕ) (xs : List (List ℕ)) → has_name xs n ≡ false → filter (bytes_eq n) xs ≡ []
none_kept n [] e = refl
none_kept n (x ∷ xs) e = by_test (bytes_eq n x) e (none_kept n xs) where
  by_test : (b : Bool) → (b || has_name xs n) ≡ false → (has_name xs n ≡ false → filter (bytes_eq n) xs ≡ []) → cond b (x ∷ filter (bytes_eq n) xs) (filter (bytes_eq n) xs) ≡ []
  by_test true h rest = cc
  by_test false h rest = rest h

-- a name that does not repeat stands once
pub stands_once : (n : List ℕ) (xs : List (List ℕ)) → NoRepeat xs → has_name xs n ≡ true → length (filter (bytes_eq n) xs) ≡ 1
stands_once n [] apart e = cc
stands_once n (x ∷ xs) apart e = by_test (bytes_eq n x) refl e (stands_once n xs apart.1) where
  by_test : (b : Bool) → bytes_eq n x ≡ b → (b || has_name xs n) ≡ true → (has_name xs n ≡ true → length (filter (bytes_eq n) xs) ≡ 1)
      → length (cond b (x ∷ filter (bytes_eq n) xs) (filter (bytes_eq n) xs)) ≡ 1
  by_test true h there rest =
      ap (λ (ys : List (List ℕ)). suc (length ys)) (none_kept n xs (ap (has_name xs) ((bytes_eq-Decides n x).0 h) ∙ apart.0))
  by_test false h there rest = rest there

-- two lists of the same names without repeats
pub hits_apart : (p : List ℕ → Bool) (names others : List (List ℕ)) → NoRepeat names → NoRepeat others → ((n : List ℕ) → has_name names n ≡ true → has_name others n ≡ true)
    → ((n : List ℕ) → has_name others n ≡ true → has_name names n ≡ true) → hits p others ≡ hits p names
hits_apart p names others apart apart' to from = hits_once p names others apart (λ n e. stands_once n others apart' (to n e)) from

-- ---- numbers that follow one another

-- how often a number stands among so many from a number on
abbrev pub span : ℕ → ℕ → ℕ → ℕ
span base zero x = 0
span base (suc count) x = cond (base == x) 1 0 + span (suc base) count x

pub span_join : (a b base x : ℕ) → span base (a + b) x ≡ span base a x + span (base + a) b x
span_join zero b base x = ap₂ (λ (c d : ℕ). span d c x) (zero_plus b) (plus_zero base) ∙ omega arith where
  zero_plus : (n : ℕ) → 0 + n ≡ n
  zero_plus n = omega arith

  plus_zero : (n : ℕ) → n ≡ n + 0
  plus_zero n = omega arith
span_join (suc a) b base x =
    ap (λ c. span base c x) (suc_plus a b)
    ∙ ap (λ n. cond (base == x) 1 0 + n) (span_join a b (suc base) x ∙ ap (λ d. span (suc base) a x + span d b x) (plus_suc base a))
    ∙ regroup (cond (base == x) 1 0) (span (suc base) a x) (span (base + suc a) b x) where
      suc_plus : (m n : ℕ) → suc m + n ≡ suc (m + n)
      suc_plus m n = omega arith

      plus_suc : (m n : ℕ) → suc m + n ≡ m + suc n
      plus_suc m n = omega arith

      regroup : (k m n : ℕ) → k + (m + n) ≡ (k + m) + n
      regroup k m n = omega arith

pub span_before : (count base x : ℕ) → x < base → span base count x ≡ 0
span_before zero base x lt = refl
span_before (suc count) base x lt =
    ap₂ (λ (b : Bool) (n : ℕ). cond b 1 0 + n) (eq_no base x (λ e. omega (arith, e, lt))) (span_before count (suc base) x (omega (arith, lt)))

-- a number among them stands there once
pub span_within : (count base x : ℕ) → base ≤ x → x < base + count → span base count x ≡ 1
span_within zero base x le lt = absurd (omega (arith, le, lt))
span_within (suc count) base x le lt = elim (cases_eq base x) [
  | inl same ↦
      ap₂ (λ (b : Bool) (n : ℕ). cond b 1 0 + n) (eq_yes base x same) (span_before count (suc base) x (omega (arith, same)))
  | inr other ↦
      ap₂ (λ (b : Bool) (n : ℕ). cond b 1 0 + n) (eq_no base x other) (span_within count (suc base) x (omega (arith, le, other)) (omega (arith, lt)))
]

-- ---- numbers of names

one_plus : (n : ℕ) → 1 + n ≡ suc n
one_plus n = omega arith

-- a name among others has its place by its number
pub place_number : (names : List (List ℕ)) (n : List ℕ) → has_name names n ≡ true → place_of names n ≡ Some (number_among names n)
place_number names n e = by_place (place_of names n) refl (sym (any_placed (bytes_eq n) names) ∙ e) where
  by_test : (b : Bool) (k : ℕ) → is_some (cond b (Some k) None) ≡ true → cond b (Some k) None ≡ Some k
  by_test true k h = refl
  by_test false k h = cc

  by_place : (o : Option ℕ) → place_of names n ≡ o → is_some (place_of names n) ≡ true → place_of names n ≡ Some (number_among names n)
  by_place o h some = by_test _ (number_among names n) some

-- another name has no place
pub place_none : (names : List (List ℕ)) (n : List ℕ) → has_name names n ≡ false → place_of names n ≡ None
place_none names n e = by_place (place_of names n) refl (sym (any_placed (bytes_eq n) names) ∙ e) where
  by_place : (o : Option ℕ) → place_of names n ≡ o → is_some (place_of names n) ≡ false → o ≡ None
  by_place None h none = refl
  by_place (Some k) h none = let both : true ≡ false = sym (ap is_some h) ∙ none in cc

pub first_number : (x : List ℕ) (xs : List (List ℕ)) → number_among (x ∷ xs) x ≡ 0
first_number x xs = ap (λ (b : Bool). cond (not b) (1 + number_among xs x) 0) ((bytes_eq-Decides x x).1 refl)

pub later_number : (x : List ℕ) (xs : List (List ℕ)) (n : List ℕ) → has_name xs x ≡ false → has_name xs n ≡ true → number_among (x ∷ xs) n ≡ suc (number_among xs n)
later_number x xs n out there =
    ap (λ (b : Bool). cond (not b) (1 + number_among xs n) 0) (apart_from x xs n out there) ∙ one_plus (number_among xs n)

-- the names by their numbers from a number on
pub hits_numbers : (base x : ℕ) (names : List (List ℕ)) → NoRepeat names → hits (λ n. (base + number_among names n) == x) names ≡ span base (length names) x
hits_numbers base x [] apart = refl
hits_numbers base x (y ∷ names) apart =
    ap₂ (λ (k m : ℕ). cond (k == x) 1 0 + m) (ap (λ k. base + k) (first_number y names) ∙ plus_zero base)
    (hits_same (λ n. (base + number_among (y ∷ names) n) == x) (λ n. (suc base + number_among names n) == x) names
    (λ i n e. ap (λ k. k == x) (ap (λ k. base + k) (later_number y names n apart.0 (at_among names i n e)) ∙ plus_suc base (number_among names n)))
    ∙ hits_numbers (suc base) x names apart.1) where
      plus_zero : (n : ℕ) → n + 0 ≡ n
      plus_zero n = omega arith

      plus_suc : (m n : ℕ) → m + suc n ≡ suc m + n
      plus_suc m n = omega arith

-- numbers that are listed beside names, by the names
pub hits_listed : (x : ℕ) (names : List (List ℕ)) (numbers : List ℕ) → NoRepeat names → length numbers ≡ length names
    → hits (λ n. unwrap_or (slice_get numbers (number_among names n)) 0 == x) names ≡ hits (λ k. k == x) numbers
hits_listed x [] [] apart same = refl
hits_listed x [] (k ∷ numbers) apart same = absurd (omega (arith, same))
hits_listed x (y ∷ names) [] apart same = absurd (omega (arith, same))
hits_listed x (y ∷ names) (k ∷ numbers) apart same =
    ap₂ (λ (j m : ℕ). cond (unwrap_or (slice_get (k ∷ numbers) j) 0 == x) 1 0 + m) (first_number y names)
    (hits_same (λ n. unwrap_or (slice_get (k ∷ numbers) (number_among (y ∷ names) n)) 0 == x) (λ n. unwrap_or (slice_get numbers (number_among names n)) 0 == x) names
    (λ i n e. ap (λ j. unwrap_or (slice_get (k ∷ numbers) j) 0 == x) (later_number y names n apart.0 (at_among names i n e)))
    ∙ hits_listed x names numbers apart.1 (omega (arith, same)))
