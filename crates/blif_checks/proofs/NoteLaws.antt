-- What the notes of signals show.
use Rattle.std.proofs.Common.{◌≡◌, ◌≢◌, ◌<◌, ◌≤◌, ◌++◌, ◌∷◌, ◌&&◌, ◌||◌, inl, inr, [], ℕ, zero, suc, List, Bool, true, false, cond, not, map, length, set, replicate, Option, Some, None, refl, ap, ap₂, sym, ◌∙◌, subst, arith}
use Rattle.std.specs.Prelude.{◌==◌, filter, is_none, nat_lt, slice_get}
use Rattle.std.specs.List.{list_any}
use Rattle.std.proofs.lemmas.Bool.{cases_eq, cases_lt, eqb-true, lt-ltb, ltb-false, ltb-true, or_parts}
use Rattle.std.proofs.Math.Bool.{or-false}
use Rattle.std.proofs.lemmas.Option.{slice_get_within}
use Rattle.blif_checks.specs.Notes.{AreNotes, IsNote, count_to, is_by, is_line, lines_for, no_note}
use Rattle.blif_checks.specs.declared.mentions.Mention.{Mention}
use Rattle.blif_checks.specs.declared.notes.Note.{Note}

-- ---- tests of numbers

pub lt_no : (a b : ℕ) → b ≤ a → nat_lt a b ≡ false
lt_no a b le = by_test (nat_lt a b) refl where
  by_test : (t : Bool) → nat_lt a b ≡ t → nat_lt a b ≡ false
  by_test true e = absurd (omega (arith, ltb-true a b e))
  by_test false e = e

pub eq_yes : (a b : ℕ) → a ≡ b → (a == b) ≡ true
eq_yes a b e = grind (arith, e)

pub eq_no : (a b : ℕ) → a ≢ b → (a == b) ≡ false
eq_no a b e = by_test (a == b) refl where
  by_test : (t : Bool) → (a == b) ≡ t → (a == b) ≡ false
  by_test true h = absurd (e (eqb-true a b h))
  by_test false h = h

-- ---- counts

count_last : (l line : ℕ) (lines : List ℕ) → count_to l (lines ++ line ∷ []) ≡ cond (not (nat_lt l line)) (suc (count_to l lines)) (count_to l lines)
count_last l line [] = refl
count_last l line (x ∷ lines) = by_tests (not (nat_lt l x)) (not (nat_lt l line)) (count_to l (lines ++ line ∷ [])) (count_to l lines) (count_last l line lines) where
  by_tests : (a b : Bool) (m n : ℕ) → m ≡ cond b (suc n) n → cond a (suc m) m ≡ cond b (suc (cond a (suc n) n)) (cond a (suc n) n)
  by_tests true true m n e = ap suc e
  by_tests true false m n e = ap suc e
  by_tests false true m n e = e
  by_tests false false m n e = e

and_no : (a : Bool) → (a && false) ≡ false
and_no true = refl
and_no false = refl

or_yes : (a : Bool) → (a || true) ≡ true
or_yes true = refl
or_yes false = refl

some_more : (b : Bool) (n : ℕ) → nat_lt 0 (cond b (suc n) n) ≡ (nat_lt 0 n || b)
some_more true n = lt-ltb 0 (suc n) (omega arith) ∙ sym (or_yes (nat_lt 0 n))
some_more false n = sym (or-false (nat_lt 0 n))

two_more : (b : Bool) (n : ℕ) → nat_lt 1 (cond b (suc n) n) ≡ (nat_lt 1 n || (nat_lt 0 n && b))
two_more true n = elim (cases_lt 0 n) [
  | inl some ↦ lt-ltb 1 (suc n) (omega arith) ∙ sym (ap (λ b. nat_lt 1 n || (b && true)) (lt-ltb 0 n some) ∙ or_yes (nat_lt 1 n))
  | inr none ↦ lt_no 1 (suc n) (omega arith) ∙ sym (ap₂ (λ a b. a || (b && true)) (lt_no 1 n (omega arith)) (lt_no 0 n none))
]
two_more false n = sym (ap (λ b. nat_lt 1 n || b) (and_no (nat_lt 0 n)) ∙ or-false (nat_lt 1 n))

-- one driver more
pub driven_more : (note next : Note) (line : ℕ) (driven used : List ℕ) → ((l : ℕ) → is_by next.first l ≡ (is_by note.first l || not (nat_lt l line)))
    → ((l : ℕ) → is_by next.second l ≡ (is_by note.second l || (is_by note.first l && not (nat_lt l line)))) → next.used ≡ note.used → IsNote note driven used → IsNote next (driven ++ line ∷ []) used
driven_more note next line driven used first second same is = record {
  first_is = λ l.
      first l ∙ ap (λ b. b || not (nat_lt l line)) (is.first_is l) ∙ sym (some_more (not (nat_lt l line)) (count_to l driven)) ∙ ap (nat_lt 0) (sym (count_last l line driven));
  second_is = λ l.
      second l ∙ ap₂ (λ a b. a || (b && not (nat_lt l line))) (is.second_is l) (is.first_is l) ∙ sym (two_more (not (nat_lt l line)) (count_to l driven)) ∙ ap (nat_lt 1) (sym (count_last l line driven));
  used_is = λ l. ap (λ o. is_by o l) same ∙ is.used_is l;
}

-- one use more
pub used_more : (note next : Note) (line : ℕ) (driven used : List ℕ) → next.first ≡ note.first → next.second ≡ note.second → ((l : ℕ) → is_by next.used l ≡ (is_by note.used l || not (nat_lt l line)))
    → IsNote note driven used → IsNote next driven (used ++ line ∷ [])
used_more note next line driven used first second more is = record {
  first_is = λ l. ap (λ o. is_by o l) first ∙ is.first_is l;
  second_is = λ l. ap (λ o. is_by o l) second ∙ is.second_is l;
  used_is = λ l.
      more l ∙ ap (λ b. b || not (nat_lt l line)) (is.used_is l) ∙ sym (some_more (not (nat_lt l line)) (count_to l used)) ∙ ap (nat_lt 0) (sym (count_last l line used));
}

-- ---- notes by numbers

at_set : {X : Type 0} (xs : List X) (i : ℕ) (x : X) → i < length xs → slice_get (set xs i x) i ≡ Some x
at_set [] i x lt = absurd (omega arith)
at_set (y ∷ xs) zero x lt = refl
at_set (y ∷ xs) (suc i) x lt = at_set xs i x (omega arith)

at_other : {X : Type 0} (xs : List X) (i j : ℕ) (x : X) → j ≢ i → slice_get (set xs i x) j ≡ slice_get xs j
at_other [] i j x other = refl
at_other (y ∷ xs) zero zero x other = absurd (other refl)
at_other (y ∷ xs) zero (suc j) x other = refl
at_other (y ∷ xs) (suc i) zero x other = refl
at_other (y ∷ xs) (suc i) (suc j) x other = at_other xs i j x (λ e. other (ap suc e))

lines_last : (k : ℕ) (list : List Mention) (o : Mention) → lines_for k (list ++ o ∷ []) ≡ lines_for k list ++ cond (o.signal == k) (o.line ∷ []) []
lines_last k [] o = by_test (o.signal == k) where
  by_test : (b : Bool) → map (λ (o : Mention). o.line) (cond b (o ∷ []) []) ≡ cond b (o.line ∷ []) []
  by_test true = refl
  by_test false = refl
lines_last k (x ∷ list) o = by_test (x.signal == k) (lines_last k list o) where
  by_test : (b : Bool) → lines_for k (list ++ o ∷ []) ≡ lines_for k list ++ cond (o.signal == k) (o.line ∷ []) []
      → map (λ (o : Mention). o.line) (cond b (x ∷ filter (λ (o : Mention). o.signal == k) (list ++ o ∷ [])) (filter (λ (o : Mention). o.signal == k) (list ++ o ∷ [])))
      ≡ map (λ (o : Mention). o.line) (cond b (x ∷ filter (λ (o : Mention). o.signal == k) list) (filter (λ (o : Mention). o.signal == k) list)) ++ cond (o.signal == k) (o.line ∷ []) []
  by_test true e = ap (λ ls. x.line ∷ ls) e
  by_test false e = e

no_more : (xs : List ℕ) → xs ++ [] ≡ xs
no_more [] = refl
no_more (x ∷ xs) = ap (λ ys. x ∷ ys) (no_more xs)

lines_here : (k : ℕ) (list : List Mention) (o : Mention) → o.signal ≡ k → lines_for k (list ++ o ∷ []) ≡ lines_for k list ++ o.line ∷ []
lines_here k list o e = lines_last k list o ∙ ap (λ b. lines_for k list ++ cond b (o.line ∷ []) []) (eq_yes o.signal k e)

lines_other : (k : ℕ) (list : List Mention) (o : Mention) → o.signal ≢ k → lines_for k (list ++ o ∷ []) ≡ lines_for k list
lines_other k list o e = lines_last k list o ∙ ap (λ b. lines_for k list ++ cond b (o.line ∷ []) []) (eq_no o.signal k e) ∙ no_more (lines_for k list)

same_note : (a b : Note) → Some a ≡ Some b → a ≡ b
same_note a b e = cc

none_read : (count k : ℕ) (note : Note) → slice_get (replicate count no_note) k ≡ Some note → no_note ≡ note
none_read zero k note e = cc
none_read (suc count) zero note e = same_note no_note note e
none_read (suc count) (suc k) note e = none_read count k note e

no_lines : IsNote no_note [] []
no_lines = record { first_is = λ l. refl; second_is = λ l. refl; used_is = λ l. refl }

-- nothing is noted
pub notes_none : (count : ℕ) → AreNotes (replicate count no_note) [] []
notes_none count = record { each = λ k note e. subst (λ (n : Note). IsNote n [] []) (none_read count k note e) no_lines }

-- a driver is noted
pub notes_driver : (notes : List Note) (o : Mention) (old new : Note) (drivers uses : List Mention) → slice_get notes o.signal ≡ Some old
    → ((driven used : List ℕ) → IsNote old driven used → IsNote new (driven ++ o.line ∷ []) used) → AreNotes notes drivers uses → AreNotes (set notes o.signal new) (drivers ++ o ∷ []) uses
notes_driver notes o old new drivers uses here step are = record {
  each = λ k note e. elim (cases_eq k o.signal) [
    | inl same ↦
        let is : new ≡ note = same_note new note (sym (at_set notes o.signal new (slice_get_within notes o.signal old here)) ∙ ap (slice_get (set notes o.signal new)) (sym same) ∙ e) in
        let before : IsNote old (lines_for k drivers) (lines_for k uses) = are.each k old (ap (slice_get notes) same ∙ here) in
        subst (λ (n : Note). IsNote n (lines_for k (drivers ++ o ∷ [])) (lines_for k uses)) is
        (subst (λ (ls : List ℕ). IsNote new ls (lines_for k uses)) (sym (lines_here k drivers o (sym same))) (step (lines_for k drivers) (lines_for k uses) before))
    | inr other ↦
        subst (λ (ls : List ℕ). IsNote note ls (lines_for k uses)) (sym (lines_other k drivers o (λ h. other (sym h))))
        (are.each k note (sym (at_other notes o.signal k new other) ∙ e))
  ];
}

-- a driver of no signal of these
pub notes_driver_none : (notes : List Note) (o : Mention) (drivers uses : List Mention) → length notes ≤ o.signal → AreNotes notes drivers uses → AreNotes notes (drivers ++ o ∷ []) uses
notes_driver_none notes o drivers uses past are = record {
  each = λ k note e.
      let lt = slice_get_within notes k note e in
      subst (λ (ls : List ℕ). IsNote note ls (lines_for k uses)) (sym (lines_other k drivers o (omega (arith, lt, past)))) (are.each k note e);
}

-- a use is noted
pub notes_use : (notes : List Note) (o : Mention) (old new : Note) (drivers uses : List Mention) → slice_get notes o.signal ≡ Some old
    → ((driven used : List ℕ) → IsNote old driven used → IsNote new driven (used ++ o.line ∷ [])) → AreNotes notes drivers uses → AreNotes (set notes o.signal new) drivers (uses ++ o ∷ [])
notes_use notes o old new drivers uses here step are = record {
  each = λ k note e. elim (cases_eq k o.signal) [
    | inl same ↦
        let is : new ≡ note = same_note new note (sym (at_set notes o.signal new (slice_get_within notes o.signal old here)) ∙ ap (slice_get (set notes o.signal new)) (sym same) ∙ e) in
        let before : IsNote old (lines_for k drivers) (lines_for k uses) = are.each k old (ap (slice_get notes) same ∙ here) in
        subst (λ (n : Note). IsNote n (lines_for k drivers) (lines_for k (uses ++ o ∷ []))) is
        (subst (IsNote new (lines_for k drivers)) (sym (lines_here k uses o (sym same))) (step (lines_for k drivers) (lines_for k uses) before))
    | inr other ↦
        subst (IsNote note (lines_for k drivers)) (sym (lines_other k uses o (λ h. other (sym h))))
        (are.each k note (sym (at_other notes o.signal k new other) ∙ e))
  ];
}

pub notes_use_none : (notes : List Note) (o : Mention) (drivers uses : List Mention) → length notes ≤ o.signal → AreNotes notes drivers uses → AreNotes notes drivers (uses ++ o ∷ [])
notes_use_none notes o drivers uses past are = record {
  each = λ k note e.
      let lt = slice_get_within notes k note e in
      subst (IsNote note (lines_for k drivers)) (sym (lines_other k uses o (omega (arith, lt, past)))) (are.each k note e);
}

-- ---- what a note shows

abbrev pub below : ℕ → List ℕ → ℕ
below zero lines = 0
below (suc l) lines = count_to l lines

abbrev pub has_line : List ℕ → ℕ → Bool
has_line lines line = list_any (λ l. l == line) lines

lt_step : (l x : ℕ) → x ≢ suc l → nat_lt (suc l) x ≡ nat_lt l x
lt_step l x other = elim (cases_lt l x) [
  | inl lt ↦ lt-ltb (suc l) x (omega (arith, other)) ∙ sym (lt-ltb l x lt)
  | inr le ↦ lt_no (suc l) x (omega arith) ∙ sym (lt_no l x le)
]

differs : (x line : ℕ) → (x == line) ≡ false → x ≢ line
differs x line e same = let yes = eq_yes x line same in cc

-- lines up to a line and not below it are that line
not_there : (line : ℕ) (lines : List ℕ) → has_line lines line ≡ false → count_to line lines ≡ below line lines
not_there zero [] e = refl
not_there (suc l) [] e = refl
not_there zero (x ∷ lines) e =
    let parts = or_parts (x == 0) (has_line lines 0) e in
    let other : x ≢ 0 = differs x 0 parts.0 in
    ap (λ b. cond (not b) (suc (count_to 0 lines)) (count_to 0 lines)) (lt-ltb 0 x (omega (arith, other))) ∙ not_there zero lines parts.1
not_there (suc l) (x ∷ lines) e =
    let parts = or_parts (x == suc l) (has_line lines (suc l)) e in
    ap₂ (λ b n. cond (not b) (suc n) n) (lt_step l x (differs x (suc l) parts.0)) (not_there (suc l) lines parts.1)

count_here : (d : ℕ) (lines : List ℕ) → nat_lt 0 (count_to d (d ∷ lines)) ≡ true
count_here d lines = ap (λ b. nat_lt 0 (cond (not b) (suc (count_to d lines)) (count_to d lines))) (lt_no d d (omega arith)) ∙ lt-ltb 0 (suc (count_to d lines)) (omega arith)

one_there : (b : Bool) (n : ℕ) → 0 < n → 0 < cond b (suc n) n
one_there true n lt = omega arith
one_there false n lt = lt

there_counts : (line : ℕ) (lines : List ℕ) → has_line lines line ≡ true → 0 < count_to line lines
there_counts line [] e = cc
there_counts line (x ∷ lines) e = by_test (x == line) refl e (there_counts line lines) where
  by_test : (b : Bool) → (x == line) ≡ b → (b || has_line lines line) ≡ true → (has_line lines line ≡ true → 0 < count_to line lines) → 0 < count_to line (x ∷ lines)
  by_test true h rest more =
      let same : x ≡ line = eqb-true x line h in
      ltb-true 0 (count_to line (x ∷ lines)) (subst (λ l. nat_lt 0 (count_to line (l ∷ lines)) ≡ true) (sym same) (count_here line lines))
  by_test false h rest more = one_there (not (nat_lt line x)) (count_to line lines) (more rest)

few_below : (second : Option ℕ) (s line : ℕ) (driven : List ℕ) → s ≡ line → ((l : ℕ) → not (nat_lt l s) ≡ nat_lt 1 (count_to l driven)) → below line driven ≤ 1
few_below second s zero driven same by = omega arith
few_below second s (suc l) driven same by =
    ltb-false 1 (count_to l driven) (sym (by l) ∙ ap not (lt-ltb l s (omega arith)))

many_below : (s line : ℕ) (driven : List ℕ) → s < line → ((l : ℕ) → not (nat_lt l s) ≡ nat_lt 1 (count_to l driven)) → 1 < below line driven
many_below s zero driven lt by = absurd (omega arith)
many_below s (suc l) driven lt by = ltb-true 1 (count_to l driven) (sym (by l) ∙ ap not (lt_no l s (omega arith)))

second_by : (second : Option ℕ) (driven : List ℕ) (line : ℕ) → ((l : ℕ) → is_by second l ≡ nat_lt 1 (count_to l driven))
    → is_line second line ≡ ((nat_lt 1 (count_to line driven) && nat_lt (below line driven) 2) && has_line driven line)
second_by None driven line by = ap (λ b. (b && nat_lt (below line driven) 2) && has_line driven line) (by line)
second_by (Some s) driven line by = elim (cases_eq s line) [
  | inl same ↦
      let one : nat_lt 1 (count_to line driven) ≡ true = sym (by line) ∙ ap not (lt_no line s (omega arith)) in
      let few : below line driven ≤ 1 = few_below (Some s) s line driven same by in
      let two : nat_lt (below line driven) 2 ≡ true = lt-ltb (below line driven) 2 (omega arith) in
      let three : has_line driven line ≡ true = here (has_line driven line) refl few (ltb-true 1 (count_to line driven) one) in
      eq_yes s line same ∙ sym (ap₂ (λ a b. (a && b) && has_line driven line) one two ∙ three)
  | inr other ↦ eq_no s line other ∙ sym (elim (cases_lt s line) [
    | inl before ↦
        let many : 1 < below line driven = many_below s line driven before by in
        ap (λ b. (nat_lt 1 (count_to line driven) && b) && has_line driven line) (lt_no (below line driven) 2 (omega arith)) ∙ ap (λ b. b && has_line driven line) (and_no (nat_lt 1 (count_to line driven)))
    | inr behind ↦
        ap (λ b. (b && nat_lt (below line driven) 2) && has_line driven line) (sym (by line) ∙ ap not (lt-ltb line s (omega (arith, other))))
  ])
] where
  here : (b : Bool) → has_line driven line ≡ b → below line driven ≤ 1 → 1 < count_to line driven → has_line driven line ≡ true
  here true e few many = e
  here false e few many = absurd (omega (arith, not_there line driven e))

pub second_there : (note : Note) (driven used : List ℕ) (line : ℕ) → IsNote note driven used
    → is_line note.second line ≡ ((nat_lt 1 (count_to line driven) && nat_lt (below line driven) 2) && has_line driven line)
second_there note driven used line is = second_by note.second driven line is.second_is

first_by : (first : Option ℕ) (driven : List ℕ) → ((l : ℕ) → is_by first l ≡ nat_lt 0 (count_to l driven)) → is_none first ≡ is_none (slice_get driven 0)
first_by None [] by = refl
first_by None (d ∷ driven) by = let never : false ≡ true = by d ∙ count_here d driven in cc
first_by (Some f) [] by = let never : true ≡ false = sym (ap not (lt_no f f (omega arith))) ∙ by f in cc
first_by (Some f) (d ∷ driven) by = refl

none_below : (u line : ℕ) (used : List ℕ) → u ≡ line → ((l : ℕ) → not (nat_lt l u) ≡ nat_lt 0 (count_to l used)) → below line used ≡ 0
none_below u zero used same by = refl
none_below u (suc l) used same by =
    let le : count_to l used ≤ 0 = ltb-false 0 (count_to l used) (sym (by l) ∙ ap not (lt-ltb l u (omega arith))) in omega arith

some_below : (u line : ℕ) (used : List ℕ) → u < line → ((l : ℕ) → not (nat_lt l u) ≡ nat_lt 0 (count_to l used)) → 0 < below line used
some_below u zero used lt by = absurd (omega arith)
some_below u (suc l) used lt by = ltb-true 0 (count_to l used) (sym (by l) ∙ ap not (lt_no l u (omega arith)))

not_any : (line : ℕ) (used : List ℕ) → count_to line used ≤ 0 → has_line used line ≡ false
not_any line used le = by_test (has_line used line) refl where
  by_test : (b : Bool) → has_line used line ≡ b → has_line used line ≡ false
  by_test true e = let some = there_counts line used e in absurd (omega arith)
  by_test false e = e

used_by : (first : Option ℕ) (used : List ℕ) (line : ℕ) → ((l : ℕ) → is_by first l ≡ nat_lt 0 (count_to l used)) → is_line first line ≡ (has_line used line && (below line used == 0))
used_by None used line by = sym (ap (λ b. b && (below line used == 0)) (not_any line used (ltb-false 0 (count_to line used) (sym (by line)))))
used_by (Some u) used line by = elim (cases_eq u line) [
  | inl same ↦
      let some : 0 < count_to line used = ltb-true 0 (count_to line used) (sym (by line) ∙ ap not (lt_no line u (omega arith))) in
      let none : below line used ≡ 0 = none_below u line used same by in
      let one : has_line used line ≡ true = here (has_line used line) refl some none in
      eq_yes u line same ∙ sym (ap₂ (λ a b. a && b) one (eq_yes (below line used) 0 none))
  | inr other ↦ eq_no u line other ∙ sym (elim (cases_lt u line) [
    | inl before ↦
        let some : 0 < below line used = some_below u line used before by in
        ap (λ b. has_line used line && b) (eq_no (below line used) 0 (omega arith)) ∙ and_no (has_line used line)
    | inr behind ↦
        ap (λ b. b && (below line used == 0)) (not_any line used (ltb-false 0 (count_to line used) (sym (by line) ∙ ap not (lt-ltb line u (omega (arith, other))))))
  ])
] where
  here : (b : Bool) → has_line used line ≡ b → 0 < count_to line used → below line used ≡ 0 → has_line used line ≡ true
  here true e some none = e
  here false e some none = absurd (omega (arith, not_there line used e))

pub use_there : (note : Note) (driven used : List ℕ) (line : ℕ) → IsNote note driven used
    → (is_none note.first && is_line note.used line) ≡ ((is_none (slice_get driven 0) && has_line used line) && (below line used == 0))
use_there note driven used line is =
    ap₂ (λ a b. a && b) (first_by note.first driven is.first_is) (used_by note.used used line is.used_is)
    ∙ assoc (is_none (slice_get driven 0)) (has_line used line) (below line used == 0) where
      assoc : (a b c : Bool) → (a && (b && c)) ≡ ((a && b) && c)
      assoc true b c = refl
      assoc false b c = refl
