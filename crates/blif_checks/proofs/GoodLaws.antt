-- Notes without a bad mention, names that only inputs and clocks have, and a network without covers.
use Rattle.std.proofs.Common.{◌≡◌, ◌≤◌, ◌+◌, ◌++◌, ◌∷◌, ◌&&◌, ◌||◌, [], ℕ, zero, suc, List, Bool, true, false, cond, not, map, flat_map, length, Option, Some, None, option_map, refl, ap, ap₂, sym, ◌∙◌, subst, arith, append-nil}
use Rattle.std.specs.Prelude.{◌==◌, bytes_eq, filter, find, is_none, is_some, min, nat_lt, option_to_list, slice_get, unwrap_or}
use Rattle.std.specs.List.{list_all, list_any}
use Rattle.std.specs.Option.{option_or}
use Rattle.std.proofs.lemmas.Bool.{and_parts, eqb-true, or_parts}
use Rattle.std.proofs.lemmas.List.{length-append}
use Rattle.std.proofs.lemmas.List.Elements.{All-nil, filter-append}
use Rattle.std.proofs.lemmas.List.Folds.{list_any-append}
use Rattle.std.proofs.lemmas.Slice.Eq.{bytes_eq-Decides}
use Rattle.vrt_model.specs.FlatBlif.{cover_signals, latch_signals, sub_signals}
use Rattle.vrt_model.specs.Inputs.{IsCoverLine, IsModel}
use Rattle.vrt_model.specs.Lists.{At, has_name}
use Rattle.vrt_model.specs.Models.{Never, OnLine, Twice, count_lines, drivers_of_name, fault_on, is_driven_twice_on, is_driving, is_least_bad, is_reading, is_undriven_on, line_in, lines_of, listed_inputs, names_on, network_of, on_line, on_lines, own_fault, ties_on, uses_of_name}
use Rattle.vrt_model.specs.declared.blif.Blif.{Blif}
use Rattle.vrt_model.specs.declared.blif.BlifModel.{BlifModel}
use Rattle.vrt_model.specs.declared.blif.CoverLine.{CoverLine}
use Rattle.vrt_model.specs.declared.blif.LatchLine.{LatchLine}
use Rattle.vrt_model.specs.declared.blif.SubLine.{SubLine}
use Rattle.vrt_model.specs.declared.blif.Tie.{Tie}
use Rattle.vrt_model.proofs.Tests.{bytes_eq-sym}
use Rattle.names.proofs.ApartLaws.{NoRepeat, once_by}
use Rattle.blif_checks.specs.Least.{IsQuiet, is_bad, of_driver}
use Rattle.blif_checks.specs.Notes.{is_good, is_line, option_is}
use Rattle.blif_checks.specs.Signals.{named_beside}
use Rattle.blif_checks.specs.declared.mentions.Mention.{Mention}
use Rattle.blif_checks.specs.declared.notes.Note.{Note}
use Rattle.blif_checks.proofs.DriverLaws.{none_listed}
use Rattle.blif_checks.proofs.LeastLaws.{cond_none, no_faults, told_on}
use Rattle.blif_checks.proofs.NoteLaws.{lt_no}

-- ---- good notes

second_no : (second : Option ℕ) (line : ℕ) → is_none second ≡ true → is_line second line ≡ false
second_no None line e = refl
second_no (Some l) line e = cc

use_no : (first used : Option ℕ) (line : ℕ) → (is_some first || is_none used) ≡ true → (is_none first && is_line used line) ≡ false
use_no None None line e = refl
use_no None (Some l) line e = cc
use_no (Some f) used line e = refl

all_good : (notes : List Note) (n line : ℕ) → list_all is_good notes ≡ true
    → (option_is (λ (note : Note). is_line note.second line) (slice_get notes n) || option_is (λ (note : Note). is_none note.first && is_line note.used line) (slice_get notes n)) ≡ false
all_good [] n line e = refl
all_good (note ∷ notes) zero line e =
    let good = and_parts (is_none note.second) (is_some note.first || is_none note.used) (and_parts (is_good note) (list_all is_good notes) e).0 in
    ap₂ (λ a b. a || b) (second_no note.second line good.0) (use_no note.first note.used line good.1)
all_good (note ∷ notes) (suc n) line e = all_good notes n line (and_parts (is_good note) (list_all is_good notes) e).1

-- no mention of a signal is bad where all notes are good
pub none_bad : (notes : List Note) (mentions : List Mention) → list_all is_good notes ≡ true → (i : ℕ) (o : Mention) → At mentions i o → is_bad notes o ≡ false
none_bad notes mentions e i o at = all_good notes o.signal o.line e

-- ---- how often the inputs and clocks of a model drive a name

abbrev of_name : List ℕ → OnLine → Bool
of_name name o = bytes_eq o.name name

one_more : (b c present : Bool) (x : OnLine) (kept : List OnLine) → c ≡ b → (b ≡ true → present ≡ false) → length kept ≤ cond present 1 0 → length (cond b (x ∷ kept) kept) ≤ cond (c || present) 1 0
one_more true true true x kept e absent le = let never : true ≡ false = absent refl in cc
one_more true true false x kept e absent le = omega (arith, le)
one_more true false present x kept e absent le = cc
one_more false true present x kept e absent le = cc
one_more false false present x kept e absent le = le

listed_once : (h : OnLine → ℕ) (name : List ℕ) (names : List (List ℕ)) (lines : List ℕ) → NoRepeat names
    → length (filter (of_name name) (map (λ (o : OnLine). on_line (h o) o.name) (on_lines names lines))) ≤ cond (has_name names name) 1 0
listed_once h name [] lines n = omega arith
listed_once h name (x ∷ names) [] n = omega arith
listed_once h name (x ∷ names) (l ∷ lines) n =
    one_more (bytes_eq x name) (bytes_eq name x) (has_name names name) (on_line (h (on_line l x)) x) (filter (of_name name) (map (λ (o : OnLine). on_line (h o) o.name) (on_lines names lines)))
    (bytes_eq-sym name x) (λ same. ap (has_name names) (sym ((bytes_eq-Decides x name).0 same)) ∙ n.0) (listed_once h name names lines n.1)

plain : (os : List OnLine) → map (λ (o : OnLine). on_line o.line o.name) os ≡ os
plain [] = refl
plain (o ∷ os) = ap (λ (rest : List OnLine). o ∷ rest) (plain os)

listed_plain : (name : List ℕ) (names : List (List ℕ)) (lines : List ℕ) → NoRepeat names → length (filter (of_name name) (on_lines names lines)) ≤ cond (has_name names name) 1 0
listed_plain name names lines n =
    subst (λ (os : List OnLine). length (filter (of_name name) os) ≤ cond (has_name names name) 1 0) (plain (on_lines names lines)) (listed_once (λ (o : OnLine). o.line) name names lines n)

-- what is filtered twice, item by item
pushed : (q : OnLine → Bool) (b : Bool) (x : OnLine) (ys : List OnLine) → filter q (cond b (x ∷ ys) ys) ≡ cond b (cond (q x) (x ∷ filter q ys) (filter q ys)) (filter q ys)
pushed q true x ys = refl
pushed q false x ys = refl

no_more : (a b : Bool) (x : OnLine) (part all : List OnLine) → length part ≤ length all → length (cond a (cond b (x ∷ part) part) part) ≤ length (cond b (x ∷ all) all)
no_more true true x part all le = omega (arith, le)
no_more true false x part all le = le
no_more false true x part all le = omega (arith, le)
no_more false false x part all le = le

-- a part of a list has a name no more often
fewer : (p q : OnLine → Bool) (xs : List OnLine) → length (filter q (filter p xs)) ≤ length (filter q xs)
fewer p q [] = omega arith
fewer p q (x ∷ xs) =
    subst (λ (kept : List OnLine). length kept ≤ length (cond (q x) (x ∷ filter q xs) (filter q xs))) (sym (pushed q (p x) x (filter p xs)))
    (no_more (p x) (q x) x (filter q (filter p xs)) (filter q xs) (fewer p q xs))

skipped : (a b : Bool) (x : OnLine) (part : List OnLine) → (b ≡ true → a ≡ false) → length (cond a (cond b (x ∷ part) part) part) ≡ length part
skipped true true x part absent = let never : true ≡ false = absent refl in cc
skipped true false x part absent = refl
skipped false b x part absent = refl

-- and not at all where it has no item of the name
none_kept : (p q : OnLine → Bool) (xs : List OnLine) → ((x : OnLine) → q x ≡ true → p x ≡ false) → length (filter q (filter p xs)) ≡ 0
none_kept p q [] never = refl
none_kept p q (x ∷ xs) never =
    ap length (pushed q (p x) x (filter p xs)) ∙ skipped (p x) (q x) x (filter q (filter p xs)) (never x) ∙ none_kept p q xs never

at_most_one : (b : Bool) → cond b 1 0 ≤ 1
at_most_one true = omega arith
at_most_one false = omega arith

both_once : (name : List ℕ) (present : Bool) (first others : List OnLine) → length (filter (of_name name) first) ≤ cond present 1 0
    → (present ≡ true → length (filter (of_name name) others) ≡ 0) → length (filter (of_name name) others) ≤ 1 → length (filter (of_name name) (first ++ others)) ≤ 1
both_once name true first others le none few =
    let total : length (filter (of_name name) (first ++ others)) ≡ length (filter (of_name name) first) + length (filter (of_name name) others) =
    ap length (filter-append (of_name name) first others) ∙ length-append (filter (of_name name) first) (filter (of_name name) others) in
    let gone : length (filter (of_name name) others) ≡ 0 = none refl in omega (arith, total, le, gone)
both_once name false first others le none few =
    let total : length (filter (of_name name) (first ++ others)) ≡ length (filter (of_name name) first) + length (filter (of_name name) others) =
    ap length (filter-append (of_name name) first others) ∙ length-append (filter (of_name name) first) (filter (of_name name) others) in
    omega (arith, total, le, few)

-- a name is driven by an input or a clock, and once
driven_once : (m : BlifModel) (name : List ℕ) → IsModel m → length (filter (of_name name) (listed_inputs m)) ≤ 1
driven_once m name is =
    both_once name (has_name m.inputs name)
    (map (λ (o : OnLine). on_line (min o.line (unwrap_or (line_in (on_lines m.clocks m.clock_lines) o.name) o.line)) o.name) (on_lines m.inputs m.input_lines))
    (filter (λ (o : OnLine). is_none (line_in (on_lines m.inputs m.input_lines) o.name)) (on_lines m.clocks m.clock_lines))
    (listed_once (λ (o : OnLine). min o.line (unwrap_or (line_in (on_lines m.clocks m.clock_lines) o.name) o.line)) name m.inputs m.input_lines (once_by m.inputs is.inputs))
    (λ h. none_kept (λ (o : OnLine). is_none (line_in (on_lines m.inputs m.input_lines) o.name)) (of_name name) (on_lines m.clocks m.clock_lines)
    (λ o e. none_listed m.inputs m.input_lines o.name is.input_lines ∙ ap not (ap (has_name m.inputs) ((bytes_eq-Decides o.name name).0 e) ∙ h)))
    (others_few (fewer (λ (o : OnLine). is_none (line_in (on_lines m.inputs m.input_lines) o.name)) (of_name name) (on_lines m.clocks m.clock_lines))
    (listed_plain name m.clocks m.clock_lines (once_by m.clocks is.clocks)) (at_most_one (has_name m.clocks name))) where
      others_few : {a b c : ℕ} → a ≤ b → b ≤ c → c ≤ 1 → a ≤ 1
      others_few p q r = omega (arith, p, q, r)

-- ---- a name that stands on no card but those of inputs and clocks

-- by the names of the cards
cards_none : {X : Type 0} (f : X → List OnLine) (g : X → List (List ℕ)) (name : List ℕ) (xs : List X) → ((x : X) → has_name (g x) name ≡ false → filter (of_name name) (f x) ≡ [])
    → has_name (flat_map g xs) name ≡ false → filter (of_name name) (flat_map f xs) ≡ []
cards_none f g name [] each e = refl
cards_none f g name (x ∷ xs) each e =
    let both = or_parts (has_name (g x) name) (has_name (flat_map g xs) name) (sym (list_any-append (bytes_eq name) (g x) (flat_map g xs)) ∙ e) in
    filter-append (of_name name) (f x) (flat_map f xs) ∙ ap₂ ◌++◌ (each x both.0) (cards_none f g name xs each both.1)

outputs_none : {X : Type 0} (f : X → OnLine) (g : X → List (List ℕ)) (name : List ℕ) (xs : List X) → ((x : X) → has_name (g x) name ≡ false → bytes_eq name (f x).name ≡ false)
    → has_name (flat_map g xs) name ≡ false → filter (of_name name) (map f xs) ≡ []
outputs_none f g name [] each e = refl
outputs_none f g name (x ∷ xs) each e =
    let both = or_parts (has_name (g x) name) (has_name (flat_map g xs) name) (sym (list_any-append (bytes_eq name) (g x) (flat_map g xs)) ∙ e) in
    ap (λ b. cond b (f x ∷ filter (of_name name) (map f xs)) (filter (of_name name) (map f xs))) (bytes_eq-sym (f x).name name ∙ each x both.0) ∙ outputs_none f g name xs each both.1

signals_none : (line : ℕ) (name : List ℕ) (signals : List (List ℕ)) → has_name signals name ≡ false → filter (of_name name) (map (on_line line) signals) ≡ []
signals_none line name [] e = refl
signals_none line name (s ∷ signals) e =
    let both = or_parts (bytes_eq name s) (has_name signals name) e in
    ap (λ b. cond b (on_line line s ∷ filter (of_name name) (map (on_line line) signals)) (filter (of_name name) (map (on_line line) signals))) (bytes_eq-sym s name ∙ both.0)
    ∙ signals_none line name signals both.1

listed_none : (name : List ℕ) (names : List (List ℕ)) (lines : List ℕ) → has_name names name ≡ false → filter (of_name name) (on_lines names lines) ≡ []
listed_none name [] lines e = refl
listed_none name (x ∷ names) [] e = refl
listed_none name (x ∷ names) (l ∷ lines) e =
    let both = or_parts (bytes_eq name x) (has_name names name) e in
    ap (λ b. cond b (on_line l x ∷ filter (of_name name) (on_lines names lines)) (filter (of_name name) (on_lines names lines))) (bytes_eq-sym x name ∙ both.0) ∙ listed_none name names lines both.1

ties_none : (test : Tie → Bool) (line : ℕ) (name : List ℕ) (ties : List Tie) → has_name (map (λ (t : Tie). t.actual) ties) name ≡ false
    → filter (of_name name) (map (λ (t : Tie). on_line line t.actual) (filter test ties)) ≡ []
ties_none test line name [] e = refl
ties_none test line name (t ∷ ties) e =
    let both = or_parts (bytes_eq name t.actual) (has_name (map (λ (t : Tie). t.actual) ties) name) e in
    by_test (test t) (bytes_eq-sym t.actual name ∙ both.0) (ties_none test line name ties both.1) where
      by_test : (b : Bool) → bytes_eq t.actual name ≡ false → filter (of_name name) (map (λ (t : Tie). on_line line t.actual) (filter test ties)) ≡ []
          → filter (of_name name) (map (λ (t : Tie). on_line line t.actual) (cond b (t ∷ filter test ties) (filter test ties))) ≡ []
      by_test true h rest =
          ap (λ c. cond c (on_line line t.actual ∷ filter (of_name name) (map (λ (t : Tie). on_line line t.actual) (filter test ties))) (filter (of_name name) (map (λ (t : Tie). on_line line t.actual) (filter test ties)))) h
          ∙ rest
      by_test false h rest = rest

none_joined : (name : List ℕ) (xs ys : List OnLine) → filter (of_name name) xs ≡ [] → filter (of_name name) ys ≡ [] → filter (of_name name) (xs ++ ys) ≡ []
none_joined name xs ys e f = filter-append (of_name name) xs ys ∙ ap₂ ◌++◌ e f

behind_none : (name : List ℕ) (xs ys : List OnLine) → filter (of_name name) ys ≡ [] → filter (of_name name) (xs ++ ys) ≡ filter (of_name name) xs
behind_none name xs ys e = filter-append (of_name name) xs ys ∙ ap (λ (kept : List OnLine). filter (of_name name) xs ++ kept) e ∙ append-nil (filter (of_name name) xs)

-- a name stands beside the inputs and clocks on no card
record IsAbsent (m : BlifModel) (name : List ℕ) : Type 0 where
  outputs : has_name m.outputs name ≡ false
  covers : has_name (flat_map cover_signals m.covers) name ≡ false
  latches : has_name (flat_map latch_signals m.latches) name ≡ false
  subs : has_name (flat_map sub_signals m.subs) name ≡ false

absent : (m : BlifModel) (name : List ℕ) → has_name (named_beside m) name ≡ false → IsAbsent m name
absent m name e =
    let d = or_parts (has_name (m.outputs ++ flat_map cover_signals m.covers ++ flat_map latch_signals m.latches) name) (has_name (flat_map sub_signals m.subs) name)
    (sym (list_any-append (bytes_eq name) (m.outputs ++ flat_map cover_signals m.covers ++ flat_map latch_signals m.latches) (flat_map sub_signals m.subs)) ∙ e) in
    let c = or_parts (has_name (m.outputs ++ flat_map cover_signals m.covers) name) (has_name (flat_map latch_signals m.latches) name)
    (sym (list_any-append (bytes_eq name) (m.outputs ++ flat_map cover_signals m.covers) (flat_map latch_signals m.latches)) ∙ d.0) in
    let b = or_parts (has_name m.outputs name) (has_name (flat_map cover_signals m.covers) name) (sym (list_any-append (bytes_eq name) m.outputs (flat_map cover_signals m.covers)) ∙ c.0) in
    record { outputs = b.0; covers = b.1; latches = c.1; subs = d.1 }

-- of a cover its inputs and its output
cover_parts : (c : CoverLine) (name : List ℕ) → has_name (cover_signals c) name ≡ false → (has_name c.inputs name ≡ false) × (bytes_eq name c.output ≡ false)
cover_parts c name e =
    let both = or_parts (has_name c.inputs name) (has_name (c.output ∷ []) name) (sym (list_any-append (bytes_eq name) c.inputs (c.output ∷ [])) ∙ e) in
    (both.0, (or_parts (bytes_eq name c.output) false both.1).0)

-- of a latch its input and its control, and its output
latch_parts : (l : LatchLine) (name : List ℕ) → has_name (latch_signals l) name ≡ false → (has_name (l.input ∷ option_to_list l.control) name ≡ false) × (bytes_eq name l.output ≡ false)
latch_parts l name e =
    let input = or_parts (bytes_eq name l.input) (has_name (l.output ∷ option_to_list l.control) name) e in
    let output = or_parts (bytes_eq name l.output) (has_name (option_to_list l.control) name) input.1 in
    (ap₂ (λ a b. a || b) input.0 output.1, output.0)

-- nothing but inputs and clocks drives it
drivers_beside : (blif : Blif) (m : BlifModel) (name : List ℕ) → IsAbsent m name → drivers_of_name blif m name ≡ filter (of_name name) (listed_inputs m)
drivers_beside blif m name is =
    behind_none name (listed_inputs m ++ map (λ (c : CoverLine). on_line c.line c.output) m.covers ++ map (λ (l : LatchLine). on_line l.line l.output) m.latches)
    (flat_map (λ (s : SubLine). ties_on (is_driving blif s) s) m.subs)
    (cards_none (λ (s : SubLine). ties_on (is_driving blif s) s) sub_signals name m.subs (λ s e. ties_none (is_driving blif s) s.line name s.ties e) is.subs)
    ∙ behind_none name (listed_inputs m ++ map (λ (c : CoverLine). on_line c.line c.output) m.covers) (map (λ (l : LatchLine). on_line l.line l.output) m.latches)
    (outputs_none (λ (l : LatchLine). on_line l.line l.output) latch_signals name m.latches (λ l e. (latch_parts l name e).1) is.latches)
    ∙ behind_none name (listed_inputs m) (map (λ (c : CoverLine). on_line c.line c.output) m.covers)
    (outputs_none (λ (c : CoverLine). on_line c.line c.output) cover_signals name m.covers (λ c e. (cover_parts c name e).1) is.covers)

-- and nothing uses it
uses_beside : (blif : Blif) (m : BlifModel) (name : List ℕ) → IsAbsent m name → uses_of_name blif m name ≡ []
uses_beside blif m name is =
    none_joined name
    (flat_map (λ (c : CoverLine). map (on_line c.line) c.inputs) m.covers ++ flat_map (λ (l : LatchLine). map (on_line l.line) (l.input ∷ option_to_list l.control)) m.latches
    ++ flat_map (λ (s : SubLine). ties_on (is_reading blif s) s) m.subs)
    (on_lines m.outputs m.output_lines)
    (none_joined name (flat_map (λ (c : CoverLine). map (on_line c.line) c.inputs) m.covers ++ flat_map (λ (l : LatchLine). map (on_line l.line) (l.input ∷ option_to_list l.control)) m.latches)
    (flat_map (λ (s : SubLine). ties_on (is_reading blif s) s) m.subs)
    (none_joined name (flat_map (λ (c : CoverLine). map (on_line c.line) c.inputs) m.covers) (flat_map (λ (l : LatchLine). map (on_line l.line) (l.input ∷ option_to_list l.control)) m.latches)
    (cards_none (λ (c : CoverLine). map (on_line c.line) c.inputs) cover_signals name m.covers (λ c e. signals_none c.line name c.inputs (cover_parts c name e).0) is.covers)
    (cards_none (λ (l : LatchLine). map (on_line l.line) (l.input ∷ option_to_list l.control)) latch_signals name m.latches
    (λ l e. signals_none l.line name (l.input ∷ option_to_list l.control) (latch_parts l name e).0) is.latches))
    (cards_none (λ (s : SubLine). ties_on (is_reading blif s) s) sub_signals name m.subs (λ s e. ties_none (is_reading blif s) s.line name s.ties e) is.subs))
    (listed_none name m.outputs m.output_lines is.outputs)

counted : (p : OnLine → Bool) (os : List OnLine) → length (filter p os) ≤ length os
counted p [] = omega arith
counted p (o ∷ os) = by_test (p o) (filter p os) (counted p os) where
  by_test : (b : Bool) (kept : List OnLine) → length kept ≤ length os → length (cond b (o ∷ kept) kept) ≤ suc (length os)
  by_test true kept le = omega (arith, le)
  by_test false kept le = omega (arith, le)

not_twice : (drivers : List OnLine) (line : ℕ) → length drivers ≤ 1
    → (nat_lt 1 (count_lines (λ l. not (nat_lt line l)) drivers) && nat_lt (count_lines (λ l. nat_lt l line) drivers) 2 && list_any (λ (o : OnLine). o.line == line) drivers) ≡ false
not_twice drivers line few =
    let count : length (filter (λ (o : OnLine). not (nat_lt line o.line)) drivers) ≤ length drivers = counted (λ (o : OnLine). not (nat_lt line o.line)) drivers in
    let le : length (filter (λ (o : OnLine). not (nat_lt line o.line)) drivers) ≤ 1 = omega (arith, few, count) in
    ap (λ a. (a && nat_lt (count_lines (λ l. nat_lt l line) drivers) 2) && list_any (λ (o : OnLine). o.line == line) drivers) (lt_no 1 (length (filter (λ (o : OnLine). not (nat_lt line o.line)) drivers)) le)

not_used : (a b : Bool) → ((a && false) && b) ≡ false
not_used true b = refl
not_used false b = refl

-- it has no fault: it is driven once, or not at all, and not used
pub quiet_beside : (blif : Blif) (m : BlifModel) (name : List ℕ) → IsModel m → has_name (named_beside m) name ≡ false → IsQuiet blif m name
quiet_beside blif m name is e = record {
  once = λ line.
      not_twice (drivers_of_name blif m name) line (subst (λ (os : List OnLine). length os ≤ 1) (sym (drivers_beside blif m name (absent m name e))) (driven_once m name is));
  unused = λ line.
      ap (λ (us : List OnLine). (is_none (slice_get (drivers_of_name blif m name) 0) && list_any (λ (o : OnLine). o.line == line) us) && (count_lines (λ l. nat_lt l line) us == 0)) (uses_beside blif m name (absent m name e))
      ∙ not_used (is_none (slice_get (drivers_of_name blif m name) 0)) (count_lines (λ l. nat_lt l line) [] == 0);
}

-- ---- a network without covers

abbrev bare : BlifModel → BlifModel
bare m = record m { outputs = []; output_lines = []; covers = []; latches = []; subs = []; exdc = [] }

bare_is : (m : BlifModel) → IsModel m → IsModel (bare m)
bare_is m is = record {
  inputs = is.inputs;
  clocks = is.clocks;
  outputs = λ i j x y at. cc;
  input_lines = is.input_lines;
  clock_lines = is.clock_lines;
  output_lines = refl;
  covers = All-nil IsCoverLine;
  latches = All-nil (λ (l : LatchLine). l.init ≤ 3);
  exdc = All-nil IsCoverLine;
}

find_none : (p : List ℕ → Bool) (names : List (List ℕ)) → ((name : List ℕ) → p name ≡ false) → find p names ≡ None
find_none p [] none = refl
find_none p (x ∷ names) none = ap (λ b. cond b (Some x) (find p names)) (none x) ∙ find_none p names none

bare_line : (blif : Blif) (m : BlifModel) (line : ℕ) → IsModel m → fault_on blif (bare m) line ≡ None
bare_line blif m line is =
    let quiet : (name : List ℕ) → IsQuiet blif (bare m) name = λ name. quiet_beside blif (bare m) name (bare_is m is) refl in
    ap₂ (λ a b. option_or (option_map (λ (name : List ℕ). Twice line name) a) (option_map (λ (name : List ℕ). Never line name) b))
    (find_none (is_driven_twice_on blif (bare m) line) (names_on (bare m) line) (λ name. (quiet name).once line))
    (find_none (is_undriven_on blif (bare m) line) (names_on (bare m) line) (λ name. (quiet name).unused line))

none_of : (covers : List CoverLine) → (length covers == 0) ≡ true → covers ≡ []
none_of [] e = refl
none_of (c ∷ covers) e = let none : length (c ∷ covers) ≡ 0 = eqb-true (length (c ∷ covers)) 0 e in absurd (omega (arith, none))

-- a network without covers has no fault
pub no_network : (blif : Blif) (m : BlifModel) → IsModel m → (length m.exdc == 0) ≡ true → option_map of_driver (own_fault blif (network_of m)) ≡ None
no_network blif m is e =
    ap (λ (cs : List CoverLine). option_map of_driver (own_fault blif (record m { outputs = []; output_lines = []; covers = cs; latches = []; subs = []; exdc = [] }))) (none_of m.exdc e)
    ∙ ap (option_map of_driver) (no_faults (told_on blif (bare m)) (lines_of (bare m) blif) (λ l. cond_none (is_least_bad blif (bare m) l) (fault_on blif (bare m) l) (bare_line blif m l is)))
