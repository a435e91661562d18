-- The first signal of a model with two drivers or none, by notes and by the definition.
use Rattle.std.proofs.Common.{◌≡◌, ◌<◌, ◌≤◌, ◌+◌, ◌++◌, ◌∷◌, ◌&&◌, ◌||◌, inl, inr, [], ℕ, zero, suc, List, Bool, true, false, cond, not, map, flat_map, length, get_or, Option, Some, None, option_map, refl, ap, ap₂, sym, ◌∙◌, subst, arith}
use Rattle.std.specs.Prelude.{◌⊎◌, ◌==◌, bytes_eq, filter, filter_map, find, is_none, nat_lt, slice_get, Result, Ok, Err}
use Rattle.std.specs.List.{cons_option, list_any}
use Rattle.std.specs.Option.{option_or}
use Rattle.std.proofs.lemmas.Bool.{and_parts, cases_eq, cases_lt, eqb-true, lt-ltb, or_parts, or_right, or_cases}
use Rattle.std.proofs.lemmas.List.Folds.{list_any-append}
use Rattle.std.proofs.lemmas.Slice.Eq.{bytes_eq-Decides}
use Rattle.vrt_model.specs.Lists.{At, has_name}
use Rattle.vrt_model.specs.FlatBlif.{cover_signals, latch_signals, sub_signals}
use Rattle.vrt_model.specs.Models.{DriverFault, Never, OnLine, Twice, count_lines, own_fault, drivers_in, drivers_of_name, fault_on, is_driven_twice_on, is_least_bad, is_undriven_on, lines_of, names_on, never_on, on_line, on_lines, uses_in, uses_of_name}
use Rattle.vrt_model.specs.declared.blif.Blif.{Blif}
use Rattle.vrt_model.specs.declared.blif.BlifModel.{BlifModel}
use Rattle.vrt_model.specs.declared.blif.CoverLine.{CoverLine}
use Rattle.vrt_model.specs.declared.blif.LatchLine.{LatchLine}
use Rattle.vrt_model.specs.declared.blif.SubLine.{SubLine}
use Rattle.blif_checks.specs.Judged.{Judges}
use Rattle.blif_checks.specs.Least.{AreNotesOf, IsOnLine, MentionsGive, is_bad, of_driver, passes_on}
use Rattle.blif_checks.specs.Mentions.{cover_mentions, latch_mentions, mentions_in, number_among, numbered, sub_mentions}
use Rattle.blif_checks.specs.Notes.{AreNotes, IsNote, count_to, is_first_use, is_line, is_second, lines_for, option_is}
use Rattle.blif_checks.specs.declared.faults.ModelFault.{ModelFault}
use Rattle.blif_checks.specs.declared.mentions.Mention.{Mention}
use Rattle.blif_checks.specs.declared.notes.Note.{Note}
use Rattle.blif_checks.proofs.NoteLaws.{below, eq_no, eq_yes, has_line, lt_no, second_there, use_there}

-- ---- numbers of names

one_plus : (n : ℕ) → 1 + n ≡ suc n
one_plus n = omega arith

-- a name among others is found at its number
number_there : (names : List (List ℕ)) (name : List ℕ) → has_name names name ≡ true → (number_among names name < length names) × (get_or names (number_among names name) [] ≡ name)
number_there [] name e = cc
number_there (n ∷ names) name e = by_test (bytes_eq name n) refl e (number_there names name) where
  by_test : (b : Bool) → bytes_eq name n ≡ b → (b || has_name names name) ≡ true
      → (has_name names name ≡ true → (number_among names name < length names) × (get_or names (number_among names name) [] ≡ name))
      → (cond (not b) (1 + number_among names name) 0 < suc (length names)) × (get_or (n ∷ names) (cond (not b) (1 + number_among names name) 0) [] ≡ name)
  by_test true h rest further = (omega arith, sym ((bytes_eq-Decides name n).0 h))
  by_test false h rest further =
      let more = further rest in
      (omega (arith, more.0), ap (λ k. get_or (n ∷ names) k []) (one_plus (number_among names name)) ∙ more.1)

found_at : (names : List (List ℕ)) (other : List ℕ) → number_among names other < length names → get_or names (number_among names other) [] ≡ other
found_at [] other lt = absurd (omega arith)
found_at (n ∷ names) other lt = by_head (bytes_eq other n) refl lt (found_at names other) where
  by_head : (b : Bool) → bytes_eq other n ≡ b → cond (not b) (1 + number_among names other) 0 < suc (length names)
      → (number_among names other < length names → get_or names (number_among names other) [] ≡ other) → get_or (n ∷ names) (cond (not b) (1 + number_among names other) 0) [] ≡ other
  by_head true h lt further = sym ((bytes_eq-Decides other n).0 h)
  by_head false h lt further = ap (λ k. get_or (n ∷ names) k []) (one_plus (number_among names other)) ∙ further (omega arith)

-- another name has its number only if it is the same
number_same : (names : List (List ℕ)) (name other : List ℕ) → has_name names name ≡ true → (number_among names other == number_among names name) ≡ bytes_eq other name
number_same names name other e = by_test (bytes_eq other name) refl where
  differs : bytes_eq other name ≡ false → number_among names other ≡ number_among names name → ⊥
  differs h same =
      let there = number_there names name e in
      let is : get_or names (number_among names other) [] ≡ name = ap (λ k. get_or names k []) same ∙ there.1 in
      let found : get_or names (number_among names other) [] ≡ other = found_at names other (omega (arith, there.0, same)) in
      let agree : bytes_eq other name ≡ true = (bytes_eq-Decides other name).1 (sym found ∙ is) in
      let both : true ≡ false = sym agree ∙ h in cc

  by_test : (b : Bool) → bytes_eq other name ≡ b → (number_among names other == number_among names name) ≡ b
  by_test true h = eq_yes (number_among names other) (number_among names name) (ap (number_among names) ((bytes_eq-Decides other name).0 h))
  by_test false h = eq_no (number_among names other) (number_among names name) (differs h)

-- ---- the lines of a signal

line_of : OnLine → ℕ
line_of o = o.line

lines_same : (names : List (List ℕ)) (name : List ℕ) (list : List OnLine) → has_name names name ≡ true
    → lines_for (number_among names name) (map (numbered names) list) ≡ map line_of (filter (λ (o : OnLine). bytes_eq o.name name) list)
unfolding line_of
lines_same names name [] e = refl
lines_same names name (o ∷ list) e =
    ap (λ b. map (λ (o : Mention). o.line) (cond b (numbered names o ∷ filter (λ (o : Mention). o.signal == number_among names name) (map (numbered names) list)) (filter (λ (o : Mention). o.signal == number_among names name) (map (numbered names) list))))
    (number_same names name o.name e)
    ∙ by_test (bytes_eq o.name name) (lines_same names name list e) where
      by_test : (b : Bool) → lines_for (number_among names name) (map (numbered names) list) ≡ map line_of (filter (λ (o : OnLine). bytes_eq o.name name) list)
          → map (λ (o : Mention). o.line) (cond b (numbered names o ∷ filter (λ (o : Mention). o.signal == number_among names name) (map (numbered names) list)) (filter (λ (o : Mention). o.signal == number_among names name) (map (numbered names) list)))
          ≡ map line_of (cond b (o ∷ filter (λ (o : OnLine). bytes_eq o.name name) list) (filter (λ (o : OnLine). bytes_eq o.name name) list))
      by_test true rest = ap (λ ls. o.line ∷ ls) rest
      by_test false rest = rest

count_is : (line : ℕ) (list : List OnLine) → count_lines (λ l. not (nat_lt line l)) list ≡ count_to line (map line_of list)
unfolding line_of
count_is line [] = refl
count_is line (o ∷ list) = by_test (not (nat_lt line o.line)) (count_is line list) where
  by_test : (b : Bool) → count_lines (λ l. not (nat_lt line l)) list ≡ count_to line (map line_of list)
      → length (cond b (o ∷ filter (λ (o : OnLine). not (nat_lt line o.line)) list) (filter (λ (o : OnLine). not (nat_lt line o.line)) list)) ≡ cond b (suc (count_to line (map line_of list))) (count_to line (map line_of list))
  by_test true e = ap suc e
  by_test false e = e

not_below : (l x : ℕ) → nat_lt x (suc l) ≡ not (nat_lt l x)
not_below l x = elim (cases_lt l x) [
  | inl lt ↦ lt_no x (suc l) (omega arith) ∙ sym (ap not (lt-ltb l x lt))
  | inr le ↦ lt-ltb x (suc l) (omega arith) ∙ sym (ap not (lt_no l x le))
]

below_is : (line : ℕ) (list : List OnLine) → count_lines (λ l. nat_lt l line) list ≡ below line (map line_of list)
unfolding line_of
below_is zero [] = refl
below_is zero (o ∷ list) =
    ap (λ b. length (cond b (o ∷ filter (λ (o : OnLine). nat_lt o.line 0) list) (filter (λ (o : OnLine). nat_lt o.line 0) list))) (lt_no o.line 0 (omega arith)) ∙ below_is zero list
below_is (suc l) [] = refl
below_is (suc l) (o ∷ list) =
    ap (λ b. length (cond b (o ∷ filter (λ (o : OnLine). nat_lt o.line (suc l)) list) (filter (λ (o : OnLine). nat_lt o.line (suc l)) list))) (not_below l o.line)
    ∙ by_test (not (nat_lt l o.line)) (below_is (suc l) list) where
      by_test : (b : Bool) → count_lines (λ x. nat_lt x (suc l)) list ≡ below (suc l) (map line_of list)
          → length (cond b (o ∷ filter (λ (o : OnLine). nat_lt o.line (suc l)) list) (filter (λ (o : OnLine). nat_lt o.line (suc l)) list)) ≡ cond b (suc (count_to l (map line_of list))) (count_to l (map line_of list))
      by_test true e = ap suc e
      by_test false e = e

any_is : (line : ℕ) (list : List OnLine) → list_any (λ (o : OnLine). o.line == line) list ≡ has_line (map line_of list) line
unfolding line_of
any_is line [] = refl
any_is line (o ∷ list) = ap (λ b. (o.line == line) || b) (any_is line list)

empty_is : (list : List OnLine) → is_none (slice_get list 0) ≡ is_none (slice_get (map line_of list) 0)
unfolding line_of
empty_is [] = refl
empty_is (o ∷ list) = refl

-- ---- a mention, by its note and by the definition

note_at : (notes : List Note) (k : ℕ) → k < length notes → (note : Note) × (slice_get notes k ≡ Some note)
note_at [] k lt = absurd (omega arith)
note_at (n ∷ notes) zero lt = (n, refl)
note_at (n ∷ notes) (suc k) lt = note_at notes k (omega arith)

twice_is : (blif : Blif) (m : BlifModel) (notes : List Note) (names : List (List ℕ)) (o : OnLine) → has_name names o.name ≡ true → length notes ≡ length names
    → AreNotes notes (map (numbered names) (drivers_in blif m)) (map (numbered names) (uses_in blif m)) → is_second notes (numbered names o) ≡ is_driven_twice_on blif m o.line o.name
twice_is blif m notes names o among count are =
    let at = note_at notes (number_among names o.name) (omega (arith, (number_there names o.name among).0, count)) in
    let is : IsNote at.0 (lines_for (number_among names o.name) (map (numbered names) (drivers_in blif m))) (lines_for (number_among names o.name) (map (numbered names) (uses_in blif m))) =
    are.each (number_among names o.name) at.0 at.1 in
    ap (option_is (λ (note : Note). is_line note.second o.line)) at.1
    ∙ second_there at.0 (lines_for (number_among names o.name) (map (numbered names) (drivers_in blif m))) (lines_for (number_among names o.name) (map (numbered names) (uses_in blif m))) o.line is
    ∙ ap (λ (ds : List ℕ). (nat_lt 1 (count_to o.line ds) && nat_lt (below o.line ds) 2) && has_line ds o.line) (lines_same names o.name (drivers_in blif m) among)
    ∙ sym (ap₂ (λ a b. a && b)
    (ap₂ (λ a b. nat_lt 1 a && nat_lt b 2) (count_is o.line (drivers_of_name blif m o.name)) (below_is o.line (drivers_of_name blif m o.name))) (any_is o.line (drivers_of_name blif m o.name)))

undriven_is : (blif : Blif) (m : BlifModel) (notes : List Note) (names : List (List ℕ)) (o : OnLine) → has_name names o.name ≡ true → length notes ≡ length names
    → AreNotes notes (map (numbered names) (drivers_in blif m)) (map (numbered names) (uses_in blif m)) → is_first_use notes (numbered names o) ≡ is_undriven_on blif m o.line o.name
undriven_is blif m notes names o among count are =
    let at = note_at notes (number_among names o.name) (omega (arith, (number_there names o.name among).0, count)) in
    let is : IsNote at.0 (lines_for (number_among names o.name) (map (numbered names) (drivers_in blif m))) (lines_for (number_among names o.name) (map (numbered names) (uses_in blif m))) =
    are.each (number_among names o.name) at.0 at.1 in
    ap (option_is (λ (note : Note). is_none note.first && is_line note.used o.line)) at.1
    ∙ use_there at.0 (lines_for (number_among names o.name) (map (numbered names) (drivers_in blif m))) (lines_for (number_among names o.name) (map (numbered names) (uses_in blif m))) o.line is
    ∙ ap₂ (λ (ds us : List ℕ). (is_none (slice_get ds 0) && has_line us o.line) && (below o.line us == 0)) (lines_same names o.name (drivers_in blif m) among) (lines_same names o.name (uses_in blif m) among)
    ∙ sym (ap₂ (λ a b. a && (b == 0))
    (ap₂ (λ a b. a && b) (empty_is (drivers_of_name blif m o.name)) (any_is o.line (uses_of_name blif m o.name))) (below_is o.line (uses_of_name blif m o.name)))

-- a name that is none of them has the number behind all
number_none : (names : List (List ℕ)) (name : List ℕ) → has_name names name ≡ false → number_among names name ≡ length names
number_none [] name e = refl
number_none (n ∷ names) name e =
    let both = or_parts (bytes_eq name n) (has_name names name) e in
    ap (λ b. cond (not b) (1 + number_among names name) 0) both.0 ∙ ap (λ k. 1 + k) (number_none names name both.1) ∙ one_plus (length names)

none_behind : (notes : List Note) → slice_get notes (length notes) ≡ None
none_behind [] = refl
none_behind (n ∷ notes) = none_behind notes

-- and no note
unnoted : (notes : List Note) (names : List (List ℕ)) (name : List ℕ) → has_name names name ≡ false → length notes ≡ length names → slice_get notes (number_among names name) ≡ None
unnoted notes names name e count = ap (slice_get notes) (number_none names name e ∙ sym count) ∙ none_behind notes

-- what has a note is one of them
noted : (test : Note → Bool) (notes : List Note) (names : List (List ℕ)) (name : List ℕ) → length notes ≡ length names → option_is test (slice_get notes (number_among names name)) ≡ true
    → has_name names name ≡ true
noted test notes names name count marked = by_test (has_name names name) refl where
  by_test : (b : Bool) → has_name names name ≡ b → b ≡ true
  by_test true h = refl
  by_test false h = let both : false ≡ true = sym (ap (option_is test) (unnoted notes names name h count)) ∙ marked in cc

second_is : (blif : Blif) (m : BlifModel) (notes : List Note) (names : List (List ℕ)) (o : OnLine) → AreNotesOf blif m notes names → is_second notes (numbered names o) ≡ is_driven_twice_on blif m o.line o.name
second_is blif m notes names o are = by_test (has_name names o.name) refl where
  by_test : (b : Bool) → has_name names o.name ≡ b → is_second notes (numbered names o) ≡ is_driven_twice_on blif m o.line o.name
  by_test true h = twice_is blif m notes names o h are.count are.notes_are
  by_test false h = ap (option_is (λ (note : Note). is_line note.second o.line)) (unnoted notes names o.name h are.count) ∙ sym ((are.others o.name h).once o.line)

first_use_is : (blif : Blif) (m : BlifModel) (notes : List Note) (names : List (List ℕ)) (o : OnLine) → AreNotesOf blif m notes names → is_first_use notes (numbered names o) ≡ is_undriven_on blif m o.line o.name
first_use_is blif m notes names o are = by_test (has_name names o.name) refl where
  by_test : (b : Bool) → has_name names o.name ≡ b → is_first_use notes (numbered names o) ≡ is_undriven_on blif m o.line o.name
  by_test true h = undriven_is blif m notes names o h are.count are.notes_are
  by_test false h =
      ap (option_is (λ (note : Note). is_none note.first && is_line note.used o.line)) (unnoted notes names o.name h are.count) ∙ sym ((are.others o.name h).unused o.line)

-- ---- the names on a card

named_on : ℕ → List OnLine → List (List ℕ)
named_on line list = map (λ (o : OnLine). o.name) (filter (λ (o : OnLine). o.line == line) list)

named_append : (line : ℕ) (xs ys : List OnLine) → named_on line (xs ++ ys) ≡ named_on line xs ++ named_on line ys
unfolding named_on
named_append line [] ys = refl
named_append line (x ∷ xs) ys = by_test (x.line == line) (named_append line xs ys) where
  by_test : (b : Bool) → named_on line (xs ++ ys) ≡ named_on line xs ++ named_on line ys
      → map (λ (o : OnLine). o.name) (cond b (x ∷ filter (λ (o : OnLine). o.line == line) (xs ++ ys)) (filter (λ (o : OnLine). o.line == line) (xs ++ ys)))
      ≡ map (λ (o : OnLine). o.name) (cond b (x ∷ filter (λ (o : OnLine). o.line == line) xs) (filter (λ (o : OnLine). o.line == line) xs)) ++ named_on line ys
  by_test true e = ap (λ ns. x.name ∷ ns) e
  by_test false e = e

named_card : (line at : ℕ) (b : Bool) → (at == line) ≡ b → (signals : List (List ℕ)) → named_on line (map (on_line at) signals) ≡ cond b signals []
unfolding named_on
named_card line at true e [] = refl
named_card line at false e [] = refl
named_card line at true e (s ∷ signals) =
    ap (λ b. map (λ (o : OnLine). o.name) (cond b (on_line at s ∷ filter (λ (o : OnLine). o.line == line) (map (on_line at) signals)) (filter (λ (o : OnLine). o.line == line) (map (on_line at) signals)))) e
    ∙ ap (λ (ns : List (List ℕ)). s ∷ ns) (named_card line at true e signals)
named_card line at false e (s ∷ signals) =
    ap (λ b. map (λ (o : OnLine). o.name) (cond b (on_line at s ∷ filter (λ (o : OnLine). o.line == line) (map (on_line at) signals)) (filter (λ (o : OnLine). o.line == line) (map (on_line at) signals)))) e
    ∙ named_card line at false e signals

named_nothing : (line : ℕ) → named_on line [] ≡ []
unfolding named_on
named_nothing line = refl

head_names : (line : ℕ) (list : List OnLine) → named_on line list ≡ map (λ (o : OnLine). o.name) (filter (λ (o : OnLine). o.line == line) list)
unfolding named_on
head_names line list = refl

named_cards : {X : Type 0} (line : ℕ) (at : X → ℕ) (signals : X → List (List ℕ)) (xs : List X)
    → named_on line (flat_map (λ x. map (on_line (at x)) (signals x)) xs) ≡ flat_map (λ x. cond (at x == line) (signals x) []) xs
named_cards line at signals [] = named_nothing line
named_cards line at signals (x ∷ xs) =
    named_append line (map (on_line (at x)) (signals x)) (flat_map (λ x. map (on_line (at x)) (signals x)) xs)
    ∙ ap₂ ◌++◌ (named_card line (at x) (at x == line) refl (signals x)) (named_cards line at signals xs)

names_is : (m : BlifModel) (line : ℕ) → names_on m line ≡ named_on line (mentions_in m)
names_is m line = sym
    (named_append line (heads ++ flat_map cover_mentions m.covers ++ flat_map latch_mentions m.latches) (flat_map sub_mentions m.subs)
    ∙ ap₂ ◌++◌
    (named_append line (heads ++ flat_map cover_mentions m.covers) (flat_map latch_mentions m.latches)
    ∙ ap₂ ◌++◌
    (named_append line heads (flat_map cover_mentions m.covers) ∙ ap₂ ◌++◌ (head_names line heads) (named_cards line (λ (c : CoverLine). c.line) cover_signals m.covers))
    (named_cards line (λ (l : LatchLine). l.line) latch_signals m.latches))
    (named_cards line (λ (s : SubLine). s.line) sub_signals m.subs)) where
      heads : List OnLine
      heads = on_lines m.inputs m.input_lines ++ on_lines m.clocks m.clock_lines ++ on_lines m.outputs m.output_lines

-- ---- the first name on a line that passes a test

-- a test of mentions says of each of these what the test of names says
pub record AreAlike (test : ℕ → List ℕ → Bool) (mark : Mention → Bool) (names : List (List ℕ)) (list : List OnLine) : Type 0 where
  pub same : (i : ℕ) (o : OnLine) → At list i o → mark (numbered names o) ≡ test o.line o.name
  pub named : (i : ℕ) (o : OnLine) → At list i o → mark (numbered names o) ≡ true → get_or names (number_among names o.name) [] ≡ o.name

behind_alike : (test : ℕ → List ℕ → Bool) (mark : Mention → Bool) (names : List (List ℕ)) (o : OnLine) (list : List OnLine) → AreAlike test mark names (o ∷ list) → AreAlike test mark names list
behind_alike test mark names o list alike = record { same = λ i p e. alike.same (suc i) p e; named = λ i p e. alike.named (suc i) p e }

finds : (test : ℕ → List ℕ → Bool) (mark : Mention → Bool) (names : List (List ℕ)) (line : ℕ) (list : List OnLine) → AreAlike test mark names list
    → find (test line) (named_on line list) ≡ option_map (λ (o : Mention). get_or names o.signal []) (find (passes_on mark line) (map (numbered names) list))
unfolding named_on
finds test mark names line [] alike = refl
finds test mark names line (o ∷ list) alike =
    by_line (o.line == line) refl (finds test mark names line list (behind_alike test mark names o list alike)) where
      rest : Option Mention
      rest = find (passes_on mark line) (map (numbered names) list)

      by_mark : (b : Bool) → mark (numbered names o) ≡ b → find (test line) (named_on line list) ≡ option_map (λ (o : Mention). get_or names o.signal []) rest
          → cond b (Some o.name) (find (test line) (named_on line list)) ≡ option_map (λ (o : Mention). get_or names o.signal []) (cond b (Some (numbered names o)) rest)
      by_mark true h e = ap Some (sym (alike.named 0 o refl h))
      by_mark false h e = e

      by_line : (b : Bool) → (o.line == line) ≡ b → find (test line) (named_on line list) ≡ option_map (λ (o : Mention). get_or names o.signal []) rest
          → find (test line) (map (λ (o : OnLine). o.name) (cond (o.line == line) (o ∷ filter (λ (o : OnLine). o.line == line) list) (filter (λ (o : OnLine). o.line == line) list)))
          ≡ option_map (λ (o : Mention). get_or names o.signal []) (cond ((o.line == line) && mark (numbered names o)) (Some (numbered names o)) rest)
      by_line true h e =
          ap (λ b. find (test line) (map (λ (o : OnLine). o.name) (cond b (o ∷ filter (λ (o : OnLine). o.line == line) list) (filter (λ (o : OnLine). o.line == line) list)))) h
          ∙ ap (λ b. cond b (Some o.name) (find (test line) (named_on line list))) (ap (λ l. test l o.name) (sym (eqb-true o.line line h)) ∙ sym (alike.same 0 o refl))
          ∙ by_mark (mark (numbered names o)) refl e
          ∙ ap (λ b. option_map (λ (o : Mention). get_or names o.signal []) (cond (b && mark (numbered names o)) (Some (numbered names o)) rest)) (sym h)
      by_line false h e =
          ap (λ b. find (test line) (map (λ (o : OnLine). o.name) (cond b (o ∷ filter (λ (o : OnLine). o.line == line) list) (filter (λ (o : OnLine). o.line == line) list)))) h
          ∙ e
          ∙ ap (λ b. option_map (λ (o : Mention). get_or names o.signal []) (cond (b && mark (numbered names o)) (Some (numbered names o)) rest)) (sym h)

-- ---- the first fault among lines

-- where all faults are none or this one, and one is, the first is
first_fault_is : {F : Type 0} (h : ℕ → Option F) (f : F) (lines : List ℕ) → ((l : ℕ) → (h l ≡ None) ⊎ (h l ≡ Some f)) → (i l : ℕ) → At lines i l → h l ≡ Some f → slice_get (filter_map h lines) 0 ≡ Some f
first_fault_is h f [] only i l at e = cc
first_fault_is h f (x ∷ lines) only i l at e = by_head (only x) i at (λ j here. first_fault_is h f lines only j l here e) where
  by_head : (h x ≡ None) ⊎ (h x ≡ Some f) → (i : ℕ) → At (x ∷ lines) i l → ((j : ℕ) → At lines j l → slice_get (filter_map h lines) 0 ≡ Some f) → slice_get (filter_map h (x ∷ lines)) 0 ≡ Some f
  by_head (inl none) zero at rest =
      let same : x ≡ l = cc in let both : None ≡ Some f = sym none ∙ ap h same ∙ e in cc
  by_head (inl none) (suc j) at rest = ap (λ p. slice_get (cons_option p (filter_map h lines)) 0) none ∙ rest j at
  by_head (inr some) i at rest = ap (λ p. slice_get (cons_option p (filter_map h lines)) 0) some

pub no_faults : {F : Type 0} (h : ℕ → Option F) (lines : List ℕ) → ((l : ℕ) → h l ≡ None) → slice_get (filter_map h lines) 0 ≡ None
no_faults h [] none = refl
no_faults h (x ∷ lines) none = ap (λ p. slice_get (cons_option p (filter_map h lines)) 0) (none x) ∙ no_faults h lines none

pub cond_none : {F : Type 0} (b : Bool) (o : Option F) → o ≡ None → cond b o None ≡ None
cond_none true o e = e
cond_none false o e = refl

any_from : (test : ℕ → Bool) (xs : List ℕ) (i x : ℕ) → At xs i x → test x ≡ true → list_any test xs ≡ true
any_from test [] i x at e = cc
any_from test (y ∷ xs) zero x at e = let same : y ≡ x = cc in ap (λ b. b || list_any test xs) (ap test same ∙ e)
any_from test (y ∷ xs) (suc i) x at e = by_test (test y) (any_from test xs i x at e) where
  by_test : (b : Bool) → list_any test xs ≡ true → (b || list_any test xs) ≡ true
  by_test true rest = refl
  by_test false rest = rest

all_false : (test : ℕ → Bool) (xs : List ℕ) → ((x : ℕ) → test x ≡ false) → list_any test xs ≡ false
all_false test [] none = refl
all_false test (x ∷ xs) none = ap₂ (λ a b. a || b) (none x) (all_false test xs none)

filtered_any : (p : OnLine → Bool) (line : ℕ) (list : List OnLine) → list_any (λ (o : OnLine). o.line == line) (filter p list) ≡ true → list_any (λ (o : OnLine). o.line == line) list ≡ true
filtered_any p line [] e = cc
filtered_any p line (o ∷ list) e = by_test (p o) e (filtered_any p line list) where
  by_test : (b : Bool) → list_any (λ (o : OnLine). o.line == line) (cond b (o ∷ filter p list) (filter p list)) ≡ true
      → (list_any (λ (o : OnLine). o.line == line) (filter p list) ≡ true → list_any (λ (o : OnLine). o.line == line) list ≡ true)
      → ((o.line == line) || list_any (λ (o : OnLine). o.line == line) list) ≡ true
  by_test true h more = elim (or_cases (o.line == line) (list_any (λ (o : OnLine). o.line == line) (filter p list)) h) [
    | inl here ↦ ap (λ b. b || list_any (λ (o : OnLine). o.line == line) list) here
    | inr there ↦ or_right (o.line == line) (list_any (λ (o : OnLine). o.line == line) list) (more there)
  ]
  by_test false h more = or_right (o.line == line) (list_any (λ (o : OnLine). o.line == line) list) (more h)

any_at : (line : ℕ) (list : List OnLine) → list_any (λ (o : OnLine). o.line == line) list ≡ true → (i : ℕ) × At (map (λ (o : OnLine). o.line) list) i line
any_at line [] e = cc
any_at line (o ∷ list) e = elim (or_cases (o.line == line) (list_any (λ (o : OnLine). o.line == line) list) e) [
  | inl here ↦ (0, ap Some (eqb-true o.line line here))
  | inr there ↦ let rest = any_at line list there in (suc rest.0, rest.1)
]

-- ---- all together

alike_twice : (blif : Blif) (m : BlifModel) (notes : List Note) (names : List (List ℕ)) → AreNotesOf blif m notes names → AreAlike (is_driven_twice_on blif m) (is_second notes) names (mentions_in m)
alike_twice blif m notes names are = record {
  same = λ i o e. second_is blif m notes names o are;
  named = λ i o e marked. (number_there names o.name (noted (λ (note : Note). is_line note.second o.line) notes names o.name are.count marked)).1;
}

alike_never : (blif : Blif) (m : BlifModel) (notes : List Note) (names : List (List ℕ)) → AreNotesOf blif m notes names → AreAlike (is_undriven_on blif m) (is_first_use notes) names (mentions_in m)
alike_never blif m notes names are = record {
  same = λ i o e. first_use_is blif m notes names o are;
  named = λ i o e marked. (number_there names o.name (noted (λ (note : Note). is_none note.first && is_line note.used o.line) notes names o.name are.count marked)).1;
}

twice_found : (blif : Blif) (m : BlifModel) (notes : List Note) (names : List (List ℕ)) (line : ℕ) → AreNotesOf blif m notes names
    → find (is_driven_twice_on blif m line) (names_on m line) ≡ option_map (λ (o : Mention). get_or names o.signal []) (find (passes_on (is_second notes) line) (map (numbered names) (mentions_in m)))
twice_found blif m notes names line are =
    ap (find (is_driven_twice_on blif m line)) (names_is m line) ∙ finds (is_driven_twice_on blif m) (is_second notes) names line (mentions_in m) (alike_twice blif m notes names are)

never_found : (blif : Blif) (m : BlifModel) (notes : List Note) (names : List (List ℕ)) (line : ℕ) → AreNotesOf blif m notes names
    → find (is_undriven_on blif m line) (names_on m line) ≡ option_map (λ (o : Mention). get_or names o.signal []) (find (passes_on (is_first_use notes) line) (map (numbered names) (mentions_in m)))
never_found blif m notes names line are =
    ap (find (is_undriven_on blif m line)) (names_is m line) ∙ finds (is_undriven_on blif m) (is_first_use notes) names line (mentions_in m) (alike_never blif m notes names are)

none_found : (mark : Mention → Bool) (line : ℕ) (list : List Mention) → ((i : ℕ) (o : Mention) → At list i o → o.line ≡ line → mark o ≡ false) → find (passes_on mark line) list ≡ None
none_found mark line [] none = refl
none_found mark line (o ∷ list) none = by_line (o.line == line) refl (none_found mark line list (λ i p e. none (suc i) p e)) where
  by_line : (b : Bool) → (o.line == line) ≡ b → find (passes_on mark line) list ≡ None → cond ((o.line == line) && mark o) (Some o) (find (passes_on mark line) list) ≡ None
  by_line true h e = ap₂ (λ a b. cond (a && b) (Some o) (find (passes_on mark line) list)) h (none 0 o refl (eqb-true o.line line h)) ∙ e
  by_line false h e = ap (λ a. cond (a && mark o) (Some o) (find (passes_on mark line) list)) h ∙ e

-- a line without a bad mention has no fault
fault_none : (blif : Blif) (m : BlifModel) (notes : List Note) (names : List (List ℕ)) (line : ℕ) → AreNotesOf blif m notes names
    → ((i : ℕ) (o : Mention) → At (map (numbered names) (mentions_in m)) i o → o.line ≡ line → is_bad notes o ≡ false) → fault_on blif m line ≡ None
fault_none blif m notes names line are good =
    ap₂ (λ a b. option_or (option_map (λ (name : List ℕ). Twice line name) a) (option_map (λ (name : List ℕ). Never line name) b))
    (twice_found blif m notes names line are ∙ ap (option_map (λ (o : Mention). get_or names o.signal [])) (none_found (is_second notes) line (map (numbered names) (mentions_in m)) (λ i o e l. (or_parts (is_second notes o) (is_first_use notes o) (good i o e l)).0)))
    (never_found blif m notes names line are ∙ ap (option_map (λ (o : Mention). get_or names o.signal [])) (none_found (is_first_use notes) line (map (numbered names) (mentions_in m)) (λ i o e l. (or_parts (is_second notes o) (is_first_use notes o) (good i o e l)).1)))

-- the fault of the least line
fault_there : (blif : Blif) (m : BlifModel) (notes : List Note) (names : List (List ℕ)) (line : ℕ) (f : ModelFault) → AreNotesOf blif m notes names
    → IsOnLine notes names (map (numbered names) (mentions_in m)) line f → (d : DriverFault) × (fault_on blif m line ≡ Some d) × (of_driver d ≡ f)
fault_there blif m notes names line f are on = elim on.told [
  | inl t ↦ (
    Twice line (get_or names t.0.signal []),
    ap (λ a. option_or (option_map (λ (name : List ℕ). Twice line name) a) (never_on blif m line)) (twice_found blif m notes names line are ∙ ap (option_map (λ (o : Mention). get_or names o.signal [])) t.1),
    sym t.2,
  )
  | inr n ↦ (
    Never line (get_or names n.0.signal []),
    ap₂ (λ a b. option_or (option_map (λ (name : List ℕ). Twice line name) a) (option_map (λ (name : List ℕ). Never line name) b))
        (twice_found blif m notes names line are ∙ ap (option_map (λ (o : Mention). get_or names o.signal [])) n.1)
        (never_found blif m notes names line are ∙ ap (option_map (λ (o : Mention). get_or names o.signal [])) n.2),
    sym n.3,
  )
]

mentioned : (names : List (List ℕ)) (list : List OnLine) (i : ℕ) (o : Mention) → At (map (numbered names) list) i o → (x : OnLine) × At list i x × (numbered names x ≡ o)
mentioned names [] i o e = cc
mentioned names (x ∷ list) zero o e = let same : numbered names x ≡ o = cc in (x, refl, same)
mentioned names (x ∷ list) (suc i) o e = mentioned names list i o e

-- it is the line of a driver or a use
line_there : (blif : Blif) (m : BlifModel) (notes : List Note) (names : List (List ℕ)) (line i : ℕ) (o : Mention) → AreNotesOf blif m notes names → At (map (numbered names) (mentions_in m)) i o
    → is_bad notes o ≡ true → o.line ≡ line → (j : ℕ) × At (lines_of m blif) j line
line_there blif m notes names line i o are at bad here =
    let x = mentioned names (mentions_in m) i o at in
    let l : x.0.line ≡ line = ap (λ (p : Mention). p.line) x.2 ∙ here in
    any_at line (drivers_in blif m ++ uses_in blif m) (elim (or_cases (is_second notes o) (is_first_use notes o) bad) [
      | inl second ↦
          let twice : is_driven_twice_on blif m x.0.line x.0.name ≡ true = sym (second_is blif m notes names x.0 are) ∙ ap (is_second notes) x.2 ∙ second in
          let any = (and_parts (nat_lt 1 (count_lines (λ k. not (nat_lt x.0.line k)) (drivers_of_name blif m x.0.name)) && nat_lt (count_lines (λ k. nat_lt k x.0.line) (drivers_of_name blif m x.0.name)) 2)
          (list_any (λ (p : OnLine). p.line == x.0.line) (drivers_of_name blif m x.0.name)) twice).1 in
          let among : list_any (λ (p : OnLine). p.line == line) (drivers_in blif m) ≡ true =
          ap (λ k. list_any (λ (p : OnLine). p.line == k) (drivers_in blif m)) (sym l) ∙ filtered_any (λ (p : OnLine). bytes_eq p.name x.0.name) x.0.line (drivers_in blif m) any in
          list_any-append (λ (p : OnLine). p.line == line) (drivers_in blif m) (uses_in blif m) ∙ ap (λ b. b || list_any (λ (p : OnLine). p.line == line) (uses_in blif m)) among
      | inr first ↦
          let never : is_undriven_on blif m x.0.line x.0.name ≡ true = sym (first_use_is blif m notes names x.0 are) ∙ ap (is_first_use notes) x.2 ∙ first in
          let both = (and_parts (is_none (slice_get (drivers_of_name blif m x.0.name) 0) && list_any (λ (p : OnLine). p.line == x.0.line) (uses_of_name blif m x.0.name))
          (count_lines (λ k. nat_lt k x.0.line) (uses_of_name blif m x.0.name) == 0) never).0 in
          let any = (and_parts (is_none (slice_get (drivers_of_name blif m x.0.name) 0)) (list_any (λ (p : OnLine). p.line == x.0.line) (uses_of_name blif m x.0.name)) both).1 in
          let among : list_any (λ (p : OnLine). p.line == line) (uses_in blif m) ≡ true =
          ap (λ k. list_any (λ (p : OnLine). p.line == k) (uses_in blif m)) (sym l) ∙ filtered_any (λ (p : OnLine). bytes_eq p.name x.0.name) x.0.line (uses_in blif m) any in
          list_any-append (λ (p : OnLine). p.line == line) (drivers_in blif m) (uses_in blif m) ∙ ap (λ b. list_any (λ (p : OnLine). p.line == line) (drivers_in blif m) || b) among
          ∙ or_end (list_any (λ (p : OnLine). p.line == line) (drivers_in blif m))
    ]) where
      or_end : (b : Bool) → (b || true) ≡ true
      or_end true = refl
      or_end false = refl

abbrev pub told_on : Blif → BlifModel → ℕ → Option DriverFault
told_on blif m line = cond (is_least_bad blif m line) (fault_on blif m line) None

-- a fault on a line, where no lower line has one
pub record IsLeastFault (blif : Blif) (m : BlifModel) (line : ℕ) (d : DriverFault) : Type 0 where
  pub stands : fault_on blif m line ≡ Some d
  pub least : (l : ℕ) → l < line → fault_on blif m l ≡ None

least_here : (blif : Blif) (m : BlifModel) (line : ℕ) (d : DriverFault) → IsLeastFault blif m line d → told_on blif m line ≡ Some d
least_here blif m line d is =
    ap₂ (λ b o. cond (not b) o None) (all_false (λ other. nat_lt other line && not (is_none (fault_on blif m other))) (lines_of m blif) (λ l. low l)) is.stands where
      and_end : (b : Bool) → (b && false) ≡ false
      and_end true = refl
      and_end false = refl

      low : (l : ℕ) → (nat_lt l line && not (is_none (fault_on blif m l))) ≡ false
      low l = elim (cases_lt l line) [
        | inl lt ↦ ap (λ o. nat_lt l line && not (is_none o)) (is.least l lt) ∙ and_end (nat_lt l line)
        | inr le ↦ ap (λ b. b && not (is_none (fault_on blif m l))) (lt_no l line le)
      ]

only_here : (blif : Blif) (m : BlifModel) (line : ℕ) (d : DriverFault) (i : ℕ) → IsLeastFault blif m line d → At (lines_of m blif) i line → (l : ℕ) → (told_on blif m l ≡ None) ⊎ (told_on blif m l ≡ Some d)
only_here blif m line d i is at l = elim (cases_eq l line) [
  | inl same ↦ inr (ap (told_on blif m) same ∙ least_here blif m line d is)
  | inr other ↦ elim (cases_lt l line) [
    | inl lower ↦ inl (cond_none (is_least_bad blif m l) (fault_on blif m l) (is.least l lower))
    | inr above ↦
        let test : (nat_lt line l && not (is_none (fault_on blif m line))) ≡ true =
        ap₂ (λ b o. b && not (is_none o)) (lt-ltb line l (omega (arith, other))) is.stands in
        inl (ap (λ b. cond (not b) (fault_on blif m l) None) (any_from (λ k. nat_lt k l && not (is_none (fault_on blif m k))) (lines_of m blif) i line at test))
  ]
]

-- the answer of the call that judges the mentions is that of the definition
pub judged : {T : Type 0} (blif : Blif) (m : BlifModel) (notes : List Note) (names : List (List ℕ)) (mentions : List Mention) (r : Result T ModelFault) → AreNotesOf blif m notes names
    → mentions ≡ map (numbered names) (mentions_in m) → MentionsGive notes names mentions r → Judges r (option_map of_driver (own_fault blif m))
judged blif m notes names mentions (Ok x) are same good =
    ap (option_map of_driver) (no_faults (told_on blif m) (lines_of m blif) (λ l. cond_none (is_least_bad blif m l) (fault_on blif m l)
    (fault_none blif m notes names l are (λ i o e h. good i o (ap (λ (ms : List Mention). slice_get ms i) same ∙ e)))))
judged blif m notes names mentions (Err f) are same (inl e) = inl e
judged blif m notes names mentions (Err f) are same (inr found) =
    let on : IsOnLine notes names (map (numbered names) (mentions_in m)) found.0 f = subst (λ (ms : List Mention). IsOnLine notes names ms found.0 f) same found.1 in
    let there = fault_there blif m notes names found.0 f are on in
    let least : IsLeastFault blif m found.0 there.0 = record {
      stands = there.1;
      least = λ l lt. fault_none blif m notes names l are (λ i o e h. low l lt (is_bad notes o) o.line (λ bad. on.least.1 i o e bad) h);
    } in
    let first = on.least.0 in
    let line = line_there blif m notes names found.0 first.0 first.1 are first.2 first.3 first.4 in
    inr (ap (option_map of_driver) (first_fault_is (told_on blif m) there.0 (lines_of m blif) (only_here blif m found.0 there.0 line.0 least line.1) line.0 found.0 line.1 (least_here blif m found.0 there.0 least))
    ∙ ap Some there.2) where
      low : (l : ℕ) → l < found.0 → (b : Bool) (line : ℕ) → (b ≡ true → found.0 ≤ line) → line ≡ l → b ≡ false
      low l lt true line above h = absurd (omega (arith, above refl, lt, h))
      low l lt false line above h = refl
