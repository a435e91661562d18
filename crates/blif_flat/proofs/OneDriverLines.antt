-- The lines on which the signals of a model without a fault are driven and used.
use Rattle.std.proofs.Common.{◌≡◌, ◌≢◌, ◌<◌, ◌≤◌, ◌+◌, ◌∷◌, ◌&&◌, ◌||◌, inl, inr, [], ℕ, zero, suc, List, Bool, true, false, cond, not, length, Option, Some, None, option_map, refl, ap, ap₂, sym, ◌∙◌, arith}
use Rattle.std.specs.Prelude.{◌==◌, filter, filter_map, find, is_none, nat_lt, slice_get}
use Rattle.std.specs.List.{cons_option, list_any}
use Rattle.std.specs.Option.{option_or}
use Rattle.std.proofs.lemmas.Bool.{cases_lt, lt-ltb, or_parts}
use Rattle.std.proofs.lemmas.Option.{same_Some}
use Rattle.vrt_model.specs.Lists.{Among, At}
use Rattle.vrt_model.specs.Models.{Never, OnLine, Twice, count_lines, own_fault, drivers_of_name, fault_on, is_driven_twice_on, is_least_bad, is_undriven_on, lines_of, names_on, uses_of_name}
use Rattle.vrt_model.specs.declared.blif.Blif.{Blif}
use Rattle.vrt_model.specs.declared.blif.BlifModel.{BlifModel}
use Rattle.vrt_model.proofs.Members.{at_none, find_none}
use Rattle.blif_checks.proofs.NoteLaws.{eq_yes, lt_no}

-- ---- lines in order

-- how many are on lower lines
abbrev below_line : ℕ → List OnLine → ℕ
below_line l list = count_lines (λ k. nat_lt k l) list

below_first : (list : List OnLine) → below_line 0 list ≡ 0
below_first [] = refl
below_first (o ∷ list) =
    ap (λ b. length (cond b (o ∷ filter (λ (o : OnLine). nat_lt o.line 0) list) (filter (λ (o : OnLine). nat_lt o.line 0) list))) (lt_no o.line 0 (omega arith)) ∙ below_first list

abbrev IsUnder : ℕ → List OnLine → Type 0
IsUnder k list = (i : ℕ) (o : OnLine) → At list i o → o.line < k

below_all : (k : ℕ) (list : List OnLine) → IsUnder k list → below_line k list ≡ length list
below_all k [] under = refl
below_all k (o ∷ list) under =
    ap (λ b. length (cond b (o ∷ filter (λ (o : OnLine). nat_lt o.line k) list) (filter (λ (o : OnLine). nat_lt o.line k) list))) (lt-ltb o.line k (under 0 o refl))
    ∙ ap suc (below_all k list (λ i p e. under (suc i) p e))

bound : (list : List OnLine) → (k : ℕ) × IsUnder k list
bound [] = (0, λ i o e. absurd (at_none i o e))
bound (o ∷ list) = join (bound list) where
  under : (k : ℕ) → IsUnder k list → IsUnder (suc o.line + k) (o ∷ list)
  under k u zero p e = let same : o.line ≡ p.line = ap (λ (x : OnLine). x.line) (same_Some o p e) in omega (arith, same)
  under k u (suc i) p e = let lt = u i p e in omega (arith, lt)

  join : (k : ℕ) × IsUnder k list → (k : ℕ) × IsUnder k (o ∷ list)
  join rest = (suc o.line + rest.0, under rest.0 rest.1)

-- two counts of one list by tests that agree
counts_same : (p q : ℕ → Bool) (list : List OnLine) → ((i : ℕ) (o : OnLine) → At list i o → p o.line ≡ q o.line) → count_lines p list ≡ count_lines q list
counts_same p q [] same = refl
counts_same p q (o ∷ list) same =
    by_count (p o.line) o (filter (λ (o : OnLine). p o.line) list) ∙ ap₂ (λ (b : Bool) (n : ℕ). cond b (suc n) n) (same 0 o refl) (counts_same p q list (λ i x e. same (suc i) x e))
    ∙ sym (by_count (q o.line) o (filter (λ (o : OnLine). q o.line) list)) where
      by_count : (b : Bool) (x : OnLine) (rest : List OnLine) → length (cond b (x ∷ rest) rest) ≡ cond b (suc (length rest)) (length rest)
      by_count true x rest = refl
      by_count false x rest = refl

not_below : (l x : ℕ) → not (nat_lt l x) ≡ nat_lt x (suc l)
not_below l x = elim (cases_lt l x) [
  | inl lt ↦ ap not (lt-ltb l x lt) ∙ sym (lt_no x (suc l) (omega (arith, lt)))
  | inr le ↦ ap not (lt_no l x le) ∙ sym (lt-ltb x (suc l) (omega (arith, le)))
]

up_to : (l : ℕ) (list : List OnLine) → count_lines (λ k. not (nat_lt l k)) list ≡ below_line (suc l) list
up_to l list = counts_same (λ k. not (nat_lt l k)) (λ k. nat_lt k (suc l)) list (λ i o e. not_below l o.line)

other_line : (l x : ℕ) → (x == l) ≡ false → nat_lt x (suc l) ≡ nat_lt x l
other_line l x e = elim (cases_lt x l) [
  | inl lt ↦ lt-ltb x (suc l) (omega (arith, lt)) ∙ sym (lt-ltb x l lt)
  | inr le ↦ lt_no x (suc l) (more le) ∙ sym (lt_no x l le)
] where
  differ : x ≢ l
  differ same = let both : true ≡ false = sym (eq_yes x l same) ∙ e in cc

  more : l ≤ x → suc l ≤ x
  more le = omega (arith, le, differ)

none_on : (l : ℕ) (list : List OnLine) → list_any (λ (o : OnLine). o.line == l) list ≡ false → (i : ℕ) (o : OnLine) → At list i o → (o.line == l) ≡ false
none_on l [] e i o at = absurd (at_none i o at)
none_on l (x ∷ list) e zero o at =
    ap (λ (p : OnLine). p.line == l) (sym (same_Some x o at)) ∙ (or_parts (x.line == l) (list_any (λ (o : OnLine). o.line == l) list) e).0
none_on l (x ∷ list) e (suc i) o at = none_on l list (or_parts (x.line == l) (list_any (λ (o : OnLine). o.line == l) list) e).1 i o at

least : (t k : ℕ) (list : List OnLine) → t < below_line k list → (l : ℕ) × (below_line l list ≤ t) × (t < below_line (suc l) list)
least t zero list lt = let none = below_first list in absurd (omega (arith, lt, none))
least t (suc k) list lt = elim (cases_lt t (below_line k list)) [
  | inl more ↦ least t k list more
  | inr le ↦ (k, le, lt)
]

-- the line on which the count passes a number
pub record IsTurn (t l : ℕ) (list : List OnLine) : Type 0 where
  pub few : count_lines (λ k. nat_lt k l) list ≤ t
  pub many : t < count_lines (λ k. not (nat_lt l k)) list
  pub there : list_any (λ (o : OnLine). o.line == l) list ≡ true

turn_at : (t l : ℕ) (list : List OnLine) → below_line l list ≤ t → t < below_line (suc l) list → IsTurn t l list
turn_at t l list le lt = record {
  few = le;
  many = let same = up_to l list in omega (arith, lt, same);
  there = by_test (list_any (λ (o : OnLine). o.line == l) list) refl;
} where
  by_test : (b : Bool) → list_any (λ (o : OnLine). o.line == l) list ≡ b → b ≡ true
  by_test true e = refl
  by_test false e =
      let same = counts_same (λ k. nat_lt k (suc l)) (λ k. nat_lt k l) list (λ i o at. other_line l o.line (none_on l list e i o at)) in
      absurd (omega (arith, same, le, lt))

pub turn_line : (t : ℕ) (list : List OnLine) → t < length list → (l : ℕ) × IsTurn t l list
turn_line t list lt =
    let k = bound list in
    let all = below_all k.0 list k.1 in
    let found = least t k.0 list (omega (arith, lt, all)) in
    (found.0, turn_at t found.0 list found.1 found.2)

-- ---- no fault on any line

-- where the first fault is none, there is none
pub none_told : {X F : Type 0} (h : X → Option F) (xs : List X) → slice_get (filter_map h xs) 0 ≡ None → (i : ℕ) (y : X) → At xs i y → h y ≡ None
none_told h [] e i y at = absurd (at_none i y at)
none_told {X} {F} h (x ∷ xs) e i y at = by_head (h x) refl e i at (none_told h xs) where
  by_head : (o : Option F) → h x ≡ o → slice_get (cons_option o (filter_map h xs)) 0 ≡ None → (i : ℕ) → At (x ∷ xs) i y
      → (slice_get (filter_map h xs) 0 ≡ None → (i : ℕ) (y : X) → At xs i y → h y ≡ None) → h y ≡ None
  by_head None here e zero at rest = ap h (sym (same_Some x y at)) ∙ here
  by_head None here e (suc i) at rest = rest e i y at
  by_head (Some f) here e i at rest = cc

none_pass : (test : ℕ → Bool) (xs : List ℕ) → ((i x : ℕ) → At xs i x → test x ≡ false) → list_any test xs ≡ false
none_pass test [] none = refl
none_pass test (x ∷ xs) none = ap₂ (λ a b. a || b) (none 0 x refl) (none_pass test xs (λ i y e. none (suc i) y e))

-- a model without a fault has none on a line of it: no lower line has one
pub no_fault : (blif : Blif) (m : BlifModel) → own_fault blif m ≡ None → (k l : ℕ) → l < k → Among (lines_of m blif) l → fault_on blif m l ≡ None
no_fault blif m none zero l lt a = absurd (omega (arith, lt))
no_fault blif m none (suc k) l lt a =
    sym (ap (λ b. cond (not b) (fault_on blif m l) None)
    (none_pass (λ other. nat_lt other l && not (is_none (fault_on blif m other))) (lines_of m blif) (λ i other e. lower other (λ less. no_fault blif m none k other (omega (arith, less, lt)) (i, e)))))
    ∙ none_told (λ line. cond (is_least_bad blif m line) (fault_on blif m line) None) (lines_of m blif) none a.0 l a.1 where
      and_no : (b : Bool) → (b && false) ≡ false
      and_no true = refl
      and_no false = refl

      lower : (other : ℕ) → (other < l → fault_on blif m other ≡ None) → (nat_lt other l && not (is_none (fault_on blif m other))) ≡ false
      lower other good = elim (cases_lt other l) [
        | inl less ↦ ap (λ o. nat_lt other l && not (is_none o)) (good less) ∙ and_no (nat_lt other l)
        | inr le ↦ ap (λ b. b && not (is_none (fault_on blif m other))) (lt_no other l le)
      ]

both_none : (line : ℕ) (a b : Option (List ℕ)) → option_or (option_map (λ (name : List ℕ). Twice line name) a) (option_map (λ (name : List ℕ). Never line name) b) ≡ None → (a ≡ None) × (b ≡ None)
both_none line None None e = (refl, refl)
both_none line None (Some n) e = cc
both_none line (Some n) b e = cc

-- a name on a line without a fault has no second driver there, and is used there first only where it has a driver
pub not_twice : (blif : Blif) (m : BlifModel) (l : ℕ) (n : List ℕ) → own_fault blif m ≡ None → Among (lines_of m blif) l → Among (names_on m l) n → is_driven_twice_on blif m l n ≡ false
not_twice blif m l n none a on =
    find_none (is_driven_twice_on blif m l) (names_on m l) n
    (both_none l (find (is_driven_twice_on blif m l) (names_on m l)) (find (is_undriven_on blif m l) (names_on m l)) (no_fault blif m none (suc l) l (omega arith) a)).0 on

pub not_undriven : (blif : Blif) (m : BlifModel) (l : ℕ) (n : List ℕ) → own_fault blif m ≡ None → Among (lines_of m blif) l → Among (names_on m l) n → is_undriven_on blif m l n ≡ false
not_undriven blif m l n none a on =
    find_none (is_undriven_on blif m l) (names_on m l) n
    (both_none l (find (is_driven_twice_on blif m l) (names_on m l)) (find (is_undriven_on blif m l) (names_on m l)) (no_fault blif m none (suc l) l (omega arith) a)).1 on

-- a name with several drivers has a second one on some line
pub twice_there : (blif : Blif) (m : BlifModel) (n : List ℕ) → 1 < length (drivers_of_name blif m n) → (l : ℕ) × (is_driven_twice_on blif m l n ≡ true) × (list_any (λ (o : OnLine). o.line == l) (drivers_of_name blif m n) ≡ true)
twice_there blif m n lt =
    let turn = turn_line 1 (drivers_of_name blif m n) lt in
    let is : IsTurn 1 turn.0 (drivers_of_name blif m n) = turn.1 in (
      turn.0,
      ap₂ (λ a b. a && b)
          (ap₂ (λ a b. a && b) (lt-ltb 1 (count_lines (λ k. not (nat_lt turn.0 k)) (drivers_of_name blif m n)) is.many)
          (lt-ltb (count_lines (λ k. nat_lt k turn.0) (drivers_of_name blif m n)) 2 (let few = is.few in omega (arith, few)))) is.there,
      is.there,
    )

-- a name that is used and has no driver is used first on some line
pub undriven_there : (blif : Blif) (m : BlifModel) (n : List ℕ) → drivers_of_name blif m n ≡ [] → 0 < length (uses_of_name blif m n)
    → (l : ℕ) × (is_undriven_on blif m l n ≡ true) × (list_any (λ (o : OnLine). o.line == l) (uses_of_name blif m n) ≡ true)
undriven_there blif m n none lt =
    let turn = turn_line 0 (uses_of_name blif m n) lt in
    let is : IsTurn 0 turn.0 (uses_of_name blif m n) = turn.1 in (
      turn.0,
      ap₂ (λ a b. a && b) (ap₂ (λ (a : List OnLine) (b : Bool). is_none (slice_get a 0) && b) none is.there)
          (eq_yes (count_lines (λ k. nat_lt k turn.0) (uses_of_name blif m n)) 0 (let few = is.few in omega (arith, few))),
      is.there,
    )
