-- What lines without a fault say, by what all lines tell.
use Rattle.std.proofs.Common.{◌≡◌, ◌++◌, ◌∷◌, ◌≤◌, ◌<◌, ◌+◌, ◌||◌, nat_le, nat_lt, not, [], ℕ, List, Bool, true, false, cond, length, Some, None, refl, ap, ap₂, sym, subst, ◌∙◌, append-nil, append_assoc, arith}
use Rattle.std.specs.List.{list_any}
use Rattle.std.proofs.lemmas.Bool.{leb-false, ltb-false, or_left, or_parts}
use Rattle.std.proofs.lemmas.Grind.{flat_map-append}
use Rattle.vrt_model.specs.Levels.{usual_scale}
use Rattle.vrt_model.specs.Lists.{distinct, has_name, is_empty}
use Rattle.names.specs.Names.{with_names}
use Rattle.text_lines.proofs.FaultLaws.{CleanFrom}
use Rattle.rules_reader.specs.Refused.{clocks_named, fault_of, first_missing, has_bad_expression, has_bad_number, is_misplaced, known_by, lacks_bit, known_from, levels_on, passes_own_limit, phases_named}
use Rattle.rules_reader.specs.Tables.{clocks_in, clocks_of, phase_names_in, phase_names_of, scale_by, scale_from, scales_in, told, told_on}
use Rattle.rules_expression.specs.Tokens.{nests_deeper, operator_count}
use Rattle.rules_reader.specs.declared.cards.Card.{Card}
use Rattle.rules_lines.specs.declared.entry.Entry.{Entry}
use Rattle.rules_lines.specs.declared.entry.Entry.TheVariants.{ScaleLine, DeviceLine, StrengthLine, HoldLine, ClockLine, PhaseLine, AssumeLine}
use Rattle.rules_reader.specs.declared.known.Known.{Known}
use Rattle.rules_reader.proofs.Fine.{AllSay, Fine, Says, here, known_next, says, told_here}
use Rattle.rules_reader.proofs.KnownLaws.{scale_more}
use Rattle.names.proofs.NameLaws.{distinct_more, length-with_names}
use Rattle.names.proofs.NewLaws.{among_more}

-- ---- more lines tell more

clocks_then : (before cards : List Card) → (known_by (before ++ cards)).clocks ≡ with_names (known_by before).clocks (told clocks_in cards)
unfolding known_by clocks_of
clocks_then before cards = ap distinct (flat_map-append (told_on clocks_in) before cards) ∙ distinct_more (told clocks_in before) (told clocks_in cards)

phases_then : (before cards : List Card) → (known_by (before ++ cards)).phases ≡ with_names (known_by before).phases (told phase_names_in cards)
unfolding known_by phase_names_of
phases_then before cards = ap distinct (flat_map-append (told_on phase_names_in) before cards) ∙ distinct_more (told phase_names_in before) (told phase_names_in cards)

missing_less : (a b : List (List ℕ)) → ((z : List ℕ) → has_name a z ≡ true → has_name b z ≡ true) → (xs : List (List ℕ)) → first_missing a xs ≡ None → first_missing b xs ≡ None
missing_less a b more [] e = refl
missing_less a b more (x ∷ xs) e = by_test (has_name a x) refl e (missing_less a b more xs) where
  by_test : (c : Bool) → has_name a x ≡ c → cond c (first_missing a xs) (Some x) ≡ None → (first_missing a xs ≡ None → first_missing b xs ≡ None)
      → cond (has_name b x) (first_missing b xs) (Some x) ≡ None
  by_test true h e rest = ap (λ c. cond c (first_missing b xs) (Some x)) (more x h) ∙ rest e
  by_test false h e rest = cc

-- ---- no phase is declared behind a line that names one

no_phase : (known : Known) (entry : Entry) → known.is_phase_named ≡ true → is_misplaced known entry ≡ false → phase_names_in entry ≡ []
no_phase known (PhaseLine name bits) named placed = absurd (clash known.is_phase_named (list_any (lacks_bit bits) known.clocks) named placed) where
  clash : (a b : Bool) → a ≡ true → (a || b) ≡ false → ⊥
  clash true b n p = cc
  clash false b n p = cc
no_phase known entry named placed = refl

names_no_phase : (entry : Entry) → is_empty (phases_named entry) ≡ false → phase_names_in entry ≡ []
names_no_phase (PhaseLine name bits) e = cc
names_no_phase entry e = refl

named_then : (before : List Card) (card : Card) (s : Says (length before) (known_by before) card) → (known_by before).is_phase_named ≡ true → (known_by (before ++ card ∷ [])).is_phase_named ≡ true
named_then before card s named = ap (λ (k : Known). k.is_phase_named) (known_next before card s) ∙ or_left (known_by before).is_phase_named (not (is_empty (phases_named s.entry))) named

no_later_phase : (before cards : List Card) → CleanFrom fault_of before cards → (known_by before).is_phase_named ≡ true → told phase_names_in cards ≡ []
no_later_phase before [] clean named = refl
no_later_phase before (card ∷ cards) clean named =
    let s = says before card clean.0 in
    ap₂ (λ xs ys. xs ++ ys) (told_here phase_names_in (length before) (known_by before) card s ∙ no_phase (known_by before) s.entry named s.fine.placed)
    (no_later_phase (before ++ card ∷ []) cards clean.1 (named_then before card s named))

-- ---- no scale is said behind a line with a level or a size

scale_then : (before cards : List Card) → (known_by (before ++ cards)).scale ≡ scale_from (known_by before).scale (told scales_in cards)
unfolding known_by scale_by
scale_then before cards = ap (scale_from usual_scale) (flat_map-append (told_on scales_in) before cards) ∙ scale_more usual_scale (told scales_in before) (told scales_in cards)

no_scale : (known : Known) (entry : Entry) → known.has_levels ≡ true → is_misplaced known entry ≡ false → scales_in entry ≡ []
no_scale known (ScaleLine scale) levels placed = absurd (clash known.has_levels levels placed) where
  clash : (a : Bool) → a ≡ true → a ≡ false → ⊥
  clash true n p = cc
  clash false n p = cc
no_scale known entry levels placed = refl

levels_then : (before : List Card) (card : Card) (s : Says (length before) (known_by before) card) → (known_by before).has_levels ≡ true → (known_by (before ++ card ∷ [])).has_levels ≡ true
levels_then before card s levels = ap (λ (k : Known). k.has_levels) (known_next before card s) ∙ or_left (known_by before).has_levels (not (is_empty (levels_on s.entry))) levels

no_later_scale : (before cards : List Card) → CleanFrom fault_of before cards → (known_by before).has_levels ≡ true → told scales_in cards ≡ []
no_later_scale before [] clean levels = refl
no_later_scale before (card ∷ cards) clean levels =
    let s = says before card clean.0 in
    ap₂ (λ xs ys. xs ++ ys) (told_here scales_in (length before) (known_by before) card s ∙ no_scale (known_by before) s.entry levels s.fine.placed)
    (no_later_scale (before ++ card ∷ []) cards clean.1 (levels_then before card s levels))

-- ---- limits

-- an `assume` line has few operators
abbrev pub FewOperators : Entry → Type 0
FewOperators (AssumeLine cell phase tokens) = operator_count tokens ≤ 1000
FewOperators entry = Unit {0}

few_operators : (clocks phases : List (List ℕ)) (entry : Entry) → passes_own_limit clocks phases entry ≡ false → FewOperators entry
few_operators clocks phases (AssumeLine cell phase tokens) e = ltb-false 1000 (operator_count tokens) (or_parts (nests_deeper 64 0 tokens) (nat_lt 1000 (operator_count tokens)) e).1
few_operators clocks phases entry e = tt

few_clocks : (clocks phases : List (List ℕ)) (entry : Entry) → length clocks ≤ 16 → passes_own_limit clocks phases entry ≡ false → length (with_names clocks (clocks_in entry)) ≤ 16
few_clocks clocks phases (ClockLine names) few e = let least : length clocks + length names ≤ 16 = ltb-false 16 (length clocks + length names) e in omega (arith, length-with_names clocks names)
few_clocks clocks phases entry few e = few

few_phases : (clocks phases : List (List ℕ)) (entry : Entry) → length phases ≤ 16 → passes_own_limit clocks phases entry ≡ false → length (with_names phases (phase_names_in entry)) ≤ 16
few_phases clocks phases (PhaseLine name bits) few e = let least : length phases < 16 = leb-false 16 (length phases) e in omega (arith, length-with_names phases (name ∷ []))
few_phases clocks phases entry few e = few

own_limit : (count : ℕ) (known : Known) (entry : Entry) → Fine count known entry → passes_own_limit known.clocks known.phases entry ≡ false
own_limit count known entry fine = (or_parts (nat_le 100000 count) (passes_own_limit known.clocks known.phases entry) fine.limit).1

record Few (known : Known) : Type 0 where
  clocks : length known.clocks ≤ 16
  phases : length known.phases ≤ 16

few_then : (before cards : List Card) → CleanFrom fault_of before cards → Few (known_by before) → Few (known_by (before ++ cards))
few_then before [] clean few = subst (λ cs. Few (known_by cs)) (sym (append-nil before)) few
few_then before (card ∷ cards) clean few =
    let s = says before card clean.0 in
    let own = own_limit (length before) (known_by before) s.entry s.fine in
    subst (λ cs. Few (known_by cs)) (append_assoc before (card ∷ []) cards)
    (few_then (before ++ card ∷ []) cards clean.1 (record {
      clocks = subst (λ (k : Known). length k.clocks ≤ 16) (sym (known_next before card s)) (few_clocks (known_by before).clocks (known_by before).phases s.entry few.clocks own);
      phases = subst (λ (k : Known). length k.phases ≤ 16) (sym (known_next before card s)) (few_phases (known_by before).clocks (known_by before).phases s.entry few.phases own);
    }))

none_known : Few (known_by [])
unfolding known_by clocks_of phase_names_of
none_known = record { clocks = omega arith; phases = omega arith }

pub clocks_are_few : (cards : List Card) → CleanFrom fault_of [] cards → length (clocks_of cards) ≤ 16
unfolding known_by
clocks_are_few cards clean = (few_then [] cards clean none_known).clocks

pub phases_are_few : (cards : List Card) → CleanFrom fault_of [] cards → length (phase_names_of cards) ≤ 16
unfolding known_by
phases_are_few cards clean = (few_then [] cards clean none_known).phases

-- ---- lines

-- what a line says, where this scale and these clocks and phases are known in the end
pub record Settled (scale : ℕ) (clocks phases : List (List ℕ)) (entry : Entry) : Type 0 where
  pub numbers : has_bad_number scale entry ≡ false
  pub expression : has_bad_expression entry ≡ false
  pub operators : FewOperators entry
  pub clocks_are : first_missing clocks (clocks_named entry) ≡ None
  pub phases_are : first_missing (known_from phases) (phases_named entry) ≡ None

or_true : (b : Bool) → (b || true) ≡ true
or_true true = refl
or_true false = refl

settled_phases : (before : List Card) (card : Card) (cards : List Card) → CleanFrom fault_of before (card ∷ cards) → (s : Says (length before) (known_by before) card)
    → first_missing (known_from (known_by (before ++ card ∷ cards)).phases) (phases_named s.entry) ≡ None
settled_phases before card cards clean s = by_named (phases_named s.entry) refl s.fine.phases where
  by_named : (ns : List (List ℕ)) → phases_named s.entry ≡ ns → first_missing (known_from (known_by before).phases) ns ≡ None
      → first_missing (known_from (known_by (before ++ card ∷ cards)).phases) ns ≡ None
  by_named [] e h = refl
  by_named (n ∷ ns) e h =
      let some : is_empty (phases_named s.entry) ≡ false = ap is_empty e in
      let named : (known_by (before ++ card ∷ [])).is_phase_named ≡ true = ap (λ (k : Known). k.is_phase_named) (known_next before card s)
      ∙ ap (λ b. (known_by before).is_phase_named || not b) some ∙ or_true (known_by before).is_phase_named in
      let none : told phase_names_in (card ∷ cards) ≡ [] = ap₂ (λ xs ys. xs ++ ys) (told_here phase_names_in (length before) (known_by before) card s ∙ names_no_phase s.entry some)
      (no_later_phase (before ++ card ∷ []) cards clean.1 named) in
      ap (λ ps. first_missing (known_from ps) (n ∷ ns)) (phases_then before (card ∷ cards) ∙ ap (with_names (known_by before).phases) none) ∙ h

-- the scale at a line with a level or a size is that of all lines
same_scale : (before : List Card) (card : Card) (cards : List Card) → CleanFrom fault_of before (card ∷ cards) → (s : Says (length before) (known_by before) card)
    → scales_in s.entry ≡ [] → not (is_empty (levels_on s.entry)) ≡ true → (known_by (before ++ card ∷ cards)).scale ≡ (known_by before).scale
same_scale before card cards clean s own level =
    let levels : (known_by (before ++ card ∷ [])).has_levels ≡ true = ap (λ (k : Known). k.has_levels) (known_next before card s)
    ∙ ap (λ b. (known_by before).has_levels || b) level ∙ or_true (known_by before).has_levels in
    let none : told scales_in (card ∷ cards) ≡ [] = ap₂ (λ xs ys. xs ++ ys) (told_here scales_in (length before) (known_by before) card s ∙ own)
    (no_later_scale (before ++ card ∷ []) cards clean.1 levels) in
    scale_then before (card ∷ cards) ∙ ap (scale_from (known_by before).scale) none

settled_numbers : (before : List Card) (card : Card) (cards : List Card) → CleanFrom fault_of before (card ∷ cards) → (s : Says (length before) (known_by before) card)
    → has_bad_number (known_by (before ++ card ∷ cards)).scale s.entry ≡ false
settled_numbers before card cards clean s = by_entry s.entry (same_scale before card cards clean s) s.fine.numbers where
  by_entry : (e : Entry) → (scales_in e ≡ [] → not (is_empty (levels_on e)) ≡ true → (known_by (before ++ card ∷ cards)).scale ≡ (known_by before).scale)
      → has_bad_number (known_by before).scale e ≡ false → has_bad_number (known_by (before ++ card ∷ cards)).scale e ≡ false
  by_entry (DeviceLine model kind level) same good = ap (λ scale. has_bad_number scale (DeviceLine model kind level)) (same refl refl) ∙ good
  by_entry (StrengthLine cell device level) same good = ap (λ scale. has_bad_number scale (StrengthLine cell device level)) (same refl refl) ∙ good
  by_entry (HoldLine cell net size) same good = ap (λ scale. has_bad_number scale (HoldLine cell net size)) (same refl refl) ∙ good
  by_entry e same good = good

settled_clocks : (before : List Card) (card : Card) (cards : List Card) (s : Says (length before) (known_by before) card)
    → first_missing (known_by (before ++ card ∷ cards)).clocks (clocks_named s.entry) ≡ None
settled_clocks before card cards s =
    missing_less (known_by before).clocks (known_by (before ++ card ∷ cards)).clocks
    (λ z h. ap (λ cs. has_name cs z) (clocks_then before (card ∷ cards)) ∙ among_more (known_by before).clocks (told clocks_in (card ∷ cards)) z h)
    (clocks_named s.entry) s.fine.clocks

all_settled : (final before cards : List Card) → before ++ cards ≡ final → CleanFrom fault_of before cards → AllSay (Settled (known_by final).scale (known_by final).clocks (known_by final).phases) cards
all_settled final before [] is clean = tt
all_settled final before (card ∷ cards) is clean =
    let s = says before card clean.0 in (
      here (Settled (known_by final).scale (known_by final).clocks (known_by final).phases) (length before) (known_by before) card s (record {
        numbers = subst (λ cs. has_bad_number (known_by cs).scale s.entry ≡ false) is (settled_numbers before card cards clean s);
        expression = s.fine.expression;
        operators = few_operators (known_by before).clocks (known_by before).phases s.entry (own_limit (length before) (known_by before) s.entry s.fine);
        clocks_are = subst (λ cs. first_missing (known_by cs).clocks (clocks_named s.entry) ≡ None) is (settled_clocks before card cards s);
        phases_are = subst (λ cs. first_missing (known_from (known_by cs).phases) (phases_named s.entry) ≡ None) is (settled_phases before card cards clean s);
      }),
      all_settled final (before ++ card ∷ []) cards (append_assoc before (card ∷ []) cards ∙ is) clean.1,
    )

pub settled : (cards : List Card) → CleanFrom fault_of [] cards → AllSay (Settled (scale_by cards) (clocks_of cards) (phase_names_of cards)) cards
unfolding known_by
settled cards clean = all_settled cards [] cards refl clean
