-- Lines without a fault are rules as later calls ask for them.
use Rattle.std.proofs.Common.{◌≡◌, ◌++◌, ◌∷◌, ◌≤◌, ◌<◌, ◌==◌, ◌&&◌, ◌||◌, [], ℕ, List, Bool, true, false, cond, length, map, Option, Some, None, is_none, option_map, unwrap_or, codes, refl, ap, ap₂, sym, subst, ◌∙◌, arith, inl}
use Rattle.std.specs.Prelude.{All, bytes_eq}
use Rattle.std.proofs.lemmas.Bool.{and_parts, eqb-true, or_from, or_parts}
use Rattle.std.proofs.lemmas.List.{length-map}
use Rattle.std.proofs.lemmas.List.Elements.{All-cons, All-head, All-nil, All-tail}
use Rattle.std.proofs.lemmas.Slice.Eq.{bytes_eq-Decides}
use Rattle.text_lines.specs.Faults.{IsClean}
use Rattle.vrt_model.specs.Lists.{distinct, has_name}
use Rattle.text_lines.specs.Words.{word_at}
use Rattle.names.proofs.ApartLaws.{NoRepeat, apart, once_apart, once_is_all}
use Rattle.text_lines.proofs.FaultLaws.{CleanFrom, clean_from}
use Rattle.rules_reader.specs.Entries.{cards_of}
use Rattle.rules_expression.specs.Grammar.{seen}
use Rattle.rules_expression.specs.Grammar.Formula.{a_port}
use Rattle.rules_expression.specs.Readings.{formula_of}
use Rattle.rules_reader.specs.Refused.{fault_of, key_texts, known_from}
use Rattle.rules_reader.specs.Tables.{AreRulesOf, Assumed, all_from, assumed, assumes_in, bit_for, by_entry, clock_ref, clockports_in, clocks_in, clocks_of, defaultclocks_in, devices_in, enters_in, holds_in, instance_matches_in, keepers_in, matches_in, number_in, observes_in, on_card, pairs_in, phase_names_in, phase_names_of, phases_in, ports_in, scale_by, scale_from, scales_in, strengths_in, supplies_in, table, told}
use Rattle.rules_reader.specs.declared.cards.Card.{Card}
use Rattle.rules_lines.specs.declared.entry.Entry.{Entry}
use Rattle.rules_lines.specs.declared.entry.Entry.TheVariants.{ScaleLine, DeviceLine, StrengthLine, PhaseLine, ClockportLine, DefaultclockLine, HoldLine, EnterLine, ObserveLine, AssumeLine}
use Rattle.rules_reader.proofs.Fine.{AllSay, keys_apart}
use Rattle.rules_reader.proofs.Keyed.{NamesBack, clockport_key, clockports_keyed, defaultclock_key, defaultclocks_keyed, device_key, devices_keyed, enter_key, enters_keyed, hold_key, holds_keyed, in_cell, in_table, instance_match_key, instance_matches_keyed, keeper_key, keepers_keyed, match_key, matches_keyed, observe_key, observes_keyed, pair_key, pairs_keyed, phase_key, phases_keyed, port_key, ports_keyed, strength_key, strengths_keyed, supplies_keyed, supply_key, within_cell}
use Rattle.rules_expression.proofs.Operators.{few_of, few_seen, operators_of}
use Rattle.rules_lines.proofs.Ranged.{IfThere, IsLevelByScale, IsSizeByScale, Ranged}
use Rattle.rules_lines.specs.Words.{at_scale}
use Rattle.rules_lines.specs.declared.entry.ByScale.{ByScale}
use Rattle.rules_reader.proofs.Ranged.{ranged}
use Rattle.rules_reader.proofs.Settled.{Settled, clocks_are_few, phases_are_few, settled}
use Rattle.rules_reader.proofs.Tabled.{both_say, known_one, map_join, name_back, number_small, number_within, table_all, table_within}
use Rattle.rules_reader.proofs.Within.{apart_by_key, no_repeat_within, two_same}
use Rattle.vrt_model.specs.Expressions.{operators_in}
use Rattle.vrt_model.specs.Inputs.{AllApart, AreRules, IsPhaseOf}
use Rattle.vrt_model.specs.Levels.{IsDeviceLevelAt, IsHoldSizeAt, IsScale, fine_scale, least_by, source_by, usual_scale}
use Rattle.vrt_model.specs.declared.rules.AssumeRule.{AssumeRule}
use Rattle.vrt_model.specs.declared.rules.ClockportRule.{ClockportRule}
use Rattle.vrt_model.specs.declared.rules.DefaultclockRule.{DefaultclockRule}
use Rattle.vrt_model.specs.declared.rules.DeviceRule.{DeviceRule}
use Rattle.vrt_model.specs.declared.rules.EnterRule.{EnterRule}
use Rattle.vrt_model.specs.declared.rules.HoldRule.{HoldRule}
use Rattle.vrt_model.specs.declared.rules.ObserveRule.{ObserveRule}
use Rattle.vrt_model.specs.declared.rules.Phase.{Phase}
use Rattle.vrt_model.specs.declared.rules.InstanceMatchRule.{InstanceMatchRule}
use Rattle.vrt_model.specs.declared.rules.KeeperRule.{KeeperRule}
use Rattle.vrt_model.specs.declared.rules.MatchRule.{MatchRule}
use Rattle.vrt_model.specs.declared.rules.PairRule.{PairRule}
use Rattle.vrt_model.specs.declared.rules.PortRule.{PortRule}
use Rattle.vrt_model.specs.declared.rules.SupplyRule.{SupplyRule}
use Rattle.vrt_model.specs.declared.rules.Rules.{Rules}
use Rattle.vrt_model.specs.declared.rules.StrengthRule.{StrengthRule}

-- ---- lines

-- what each line without a fault says
abbrev Good : ℕ → List (List ℕ) → List (List ℕ) → Entry → Type 0
Good scale clocks phases e = Settled scale clocks phases e × Ranged e

-- a number that is there
there : (Is : ℕ → Type 0) (o : Option ℕ) → is_none o ≡ false → IfThere Is o → Is (unwrap_or o 0)
there Is None good is = cc
there Is (Some n) good is = is

-- a level of devices, by whether the scale is the fine one
level_good : (scale : ℕ) (level : ByScale) → is_none (at_scale scale level) ≡ false → IsLevelByScale level → IsDeviceLevelAt scale (unwrap_or (at_scale scale level) 0)
level_good scale level good range = by_test (scale == fine_scale) good where
  by_test : (fine : Bool) → is_none (cond fine level.sixteen level.eight) ≡ false
      → (least_by fine ≤ unwrap_or (cond fine level.sixteen level.eight) 0) × (unwrap_or (cond fine level.sixteen level.eight) 0 < source_by fine)
  by_test true good = there (IsDeviceLevelAt fine_scale) level.sixteen good range.1
  by_test false good = there (IsDeviceLevelAt usual_scale) level.eight good range.0

-- a size of holds
size_good : (scale : ℕ) (size : ByScale) → is_none (at_scale scale size) ≡ false → IsSizeByScale size → IsHoldSizeAt scale (unwrap_or (at_scale scale size) 0)
size_good scale size good range = by_test (scale == fine_scale) good where
  by_test : (fine : Bool) → is_none (cond fine size.sixteen size.eight) ≡ false
      → (1 ≤ unwrap_or (cond fine size.sixteen size.eight) 0) × (unwrap_or (cond fine size.sixteen size.eight) 0 < least_by fine)
  by_test true good = there (IsHoldSizeAt fine_scale) size.sixteen good range.1
  by_test false good = there (IsHoldSizeAt usual_scale) size.eight good range.0

-- the scale is one of the two
one_scale : (cards : List Card) (scale : ℕ) → IsScale scale → AllSay Ranged cards → IsScale (scale_from scale (told scales_in cards))
one_scale [] scale is all = is
one_scale (card ∷ cards) scale is all = by_said card.entry all.0 (λ s e. one_scale cards s e all.1) where
  by_line : (e : Entry) → Ranged e → ((s : ℕ) → IsScale s → IsScale (scale_from s (told scales_in cards))) → IsScale (scale_from scale (scales_in e ++ told scales_in cards))
  by_line (ScaleLine s) one rest = rest s one
  by_line e one rest = rest scale is

  by_said : (o : Option Entry) → ((e : Entry) → o ≡ Some e → Ranged e) → ((s : ℕ) → IsScale s → IsScale (scale_from s (told scales_in cards)))
      → IsScale (scale_from scale (by_entry (λ line. scales_in) card.line o ++ told scales_in cards))
  by_said None h rest = rest scale is
  by_said (Some e) h rest = by_line e (h e refl) rest

is_scale : (cards : List Card) → AllSay Ranged cards → IsScale (scale_by cards)
unfolding scale_by
is_scale cards all = one_scale cards usual_scale (inl refl) all

single : {X : Type 0} (Q : X → Type 0) (x : X) → Q x → All Q (x ∷ [])
single Q x q = All-cons Q x [] q (All-nil Q)

abbrev HasLevel : ℕ → DeviceRule → Type 0
HasLevel scale d = IsDeviceLevelAt scale d.level

abbrev HasStrength : ℕ → StrengthRule → Type 0
HasStrength scale s = IsDeviceLevelAt scale s.level

abbrev HasSize : ℕ → HoldRule → Type 0
HasSize scale h = IsHoldSizeAt scale h.size

abbrev HasClock : List (List ℕ) → ClockportRule → Type 0
HasClock clocks c = c.clock.clock < length clocks

abbrev HasDefault : List (List ℕ) → DefaultclockRule → Type 0
HasDefault clocks c = c.clock < length clocks

abbrev HasPhase : ℕ → EnterRule → Type 0
HasPhase m r = r.phase < m

abbrev IsSmall : ℕ → ℕ → Type 0
IsSmall m p = p < m

abbrev HasPhases : ℕ → ObserveRule → Type 0
HasPhases m r = All (IsSmall m) r.phases

IsBelow : ℕ → Option ℕ → Type 0
IsBelow m None = Unit {0}
IsBelow m (Some p) = p < m

abbrev InPhase : ℕ → Assumed → Type 0
InPhase m r = IsBelow m r.phase

abbrev HasFew : Assumed → Type 0
HasFew r = operators_of r.formula ≤ 1000

devices_level : (scale : ℕ) (clocks phases : List (List ℕ)) (line : ℕ) (e : Entry) → Good scale clocks phases e → All (HasLevel scale) (devices_in scale line e)
devices_level scale clocks phases line (DeviceLine model kind level) g =
    let r : DeviceRule = record { line = line; model = model; kind = kind; level = unwrap_or (at_scale scale level) 0 } in
    single (HasLevel scale) r (level_good scale level g.0.numbers g.1)
devices_level scale clocks phases line e g = All-nil (HasLevel scale)

strengths_level : (scale : ℕ) (clocks phases : List (List ℕ)) (line : ℕ) (e : Entry) → Good scale clocks phases e → All (HasStrength scale) (strengths_in scale line e)
strengths_level scale clocks phases line (StrengthLine cell device level) g =
    let r : StrengthRule = record { line = line; cell = cell; device = device; level = unwrap_or (at_scale scale level) 0 } in
    single (HasStrength scale) r (level_good scale level g.0.numbers g.1)
strengths_level scale clocks phases line e g = All-nil (HasStrength scale)

holds_size : (scale : ℕ) (clocks phases : List (List ℕ)) (line : ℕ) (e : Entry) → Good scale clocks phases e → All (HasSize scale) (holds_in scale line e)
holds_size scale clocks phases line (HoldLine cell net size) g =
    let r : HoldRule = record { line = line; cell = cell; net = net; size = unwrap_or (at_scale scale size) 0 } in
    single (HasSize scale) r (size_good scale size g.0.numbers g.1)
holds_size scale clocks phases line e g = All-nil (HasSize scale)

clockports_known : (scale : ℕ) (clocks phases : List (List ℕ)) (line : ℕ) (e : Entry) → Good scale clocks phases e → All (HasClock clocks) (clockports_in clocks line e)
clockports_known scale clocks phases line (ClockportLine cell port clock) g =
    let r : ClockportRule = record { line = line; cell = cell; port = port; clock = clock_ref clocks clock } in
    single (HasClock clocks) r (number_within clocks clock.name (known_one clocks clock.name g.0.clocks_are))
clockports_known scale clocks phases line e g = All-nil (HasClock clocks)

defaultclocks_known : (scale : ℕ) (clocks phases : List (List ℕ)) (line : ℕ) (e : Entry) → Good scale clocks phases e → All (HasDefault clocks) (defaultclocks_in clocks line e)
defaultclocks_known scale clocks phases line (DefaultclockLine clock) g =
    let r : DefaultclockRule = record { line = line; clock = number_in clocks clock } in single (HasDefault clocks) r (number_within clocks clock (known_one clocks clock g.0.clocks_are))
defaultclocks_known scale clocks phases line e g = All-nil (HasDefault clocks)

-- phases have numbers below a count that is not 0 and not below theirs
abbrev Enough : List (List ℕ) → ℕ → Type 0
Enough phases m = (0 < m) × (length phases ≤ m)

enters_known : (scale : ℕ) (clocks phases : List (List ℕ)) (m : ℕ) → Enough phases m → (line : ℕ) (e : Entry) → Good scale clocks phases e → All (HasPhase m) (enters_in phases line e)
enters_known scale clocks phases m enough line (EnterLine cell phase net bit) g =
    let r : EnterRule = record { line = line; cell = cell; phase = number_in phases phase; net = net; value = unwrap_or bit false } in
    single (HasPhase m) r (number_small phases phase m enough.0 enough.1)
enters_known scale clocks phases m enough line e g = All-nil (HasPhase m)

numbers_small : (phases : List (List ℕ)) (m : ℕ) → Enough phases m → (names : List (List ℕ)) → All (IsSmall m) (map (number_in phases) names)
numbers_small phases m enough [] = All-nil (IsSmall m)
numbers_small phases m enough (n ∷ ns) =
    All-cons (IsSmall m) (number_in phases n) (map (number_in phases) ns) (number_small phases n m enough.0 enough.1) (numbers_small phases m enough ns)

observes_known : (scale : ℕ) (clocks phases : List (List ℕ)) (m : ℕ) → Enough phases m → (line : ℕ) (e : Entry) → Good scale clocks phases e → All (HasPhases m) (observes_in phases line e)
observes_known scale clocks phases m enough line (ObserveLine cell port named) g =
    let r : ObserveRule = record { line = line; cell = cell; port = port; phases = map (number_in phases) named } in single (HasPhases m) r (numbers_small phases m enough named)
observes_known scale clocks phases m enough line e g = All-nil (HasPhases m)

below : (phases : List (List ℕ)) (m : ℕ) → Enough phases m → (o : Option (List ℕ)) → IsBelow m (option_map (number_in phases) o)
unfolding IsBelow
below phases m enough None = tt
below phases m enough (Some phase) = number_small phases phase m enough.0 enough.1

assumes_known : (scale : ℕ) (clocks phases : List (List ℕ)) (m : ℕ) → Enough phases m → (line : ℕ) (e : Entry) → Good scale clocks phases e → All (InPhase m) (assumes_in phases line e)
assumes_known scale clocks phases m enough line (AssumeLine cell phase tokens) g =
    let r : Assumed = record { line = line; cell = cell; phase = option_map (number_in phases) phase; formula = unwrap_or (formula_of tokens) (a_port []) } in
    single (InPhase m) r (below phases m enough phase)
assumes_known scale clocks phases m enough line e g = All-nil (InPhase m)

assumes_few : (scale : ℕ) (clocks phases : List (List ℕ)) (line : ℕ) (e : Entry) → Good scale clocks phases e → All HasFew (assumes_in phases line e)
assumes_few scale clocks phases line (AssumeLine cell phase tokens) g =
    let r : Assumed = record { line = line; cell = cell; phase = option_map (number_in phases) phase; formula = unwrap_or (formula_of tokens) (a_port []) } in
    single HasFew r (few_of tokens g.0.operators g.0.expression)
assumes_few scale clocks phases line e g = All-nil HasFew

names_back : (scale : ℕ) (clocks phases : List (List ℕ)) (e : Entry) → Good scale clocks phases e → NamesBack phases e
names_back scale clocks phases (EnterLine cell phase net bit) g = by_phases phases (known_one (known_from phases) phase g.0.phases_are) where
  by_phases : (ps : List (List ℕ)) → has_name (known_from ps) phase ≡ true → word_at (known_from ps) (number_in ps phase) ≡ phase
  by_phases (p ∷ ps) e = name_back (p ∷ ps) phase e
  by_phases [] e = all_named (bytes_eq phase (codes "all")) refl e where
    all_named : (b : Bool) → bytes_eq phase (codes "all") ≡ b → (b || false) ≡ true → codes "all" ≡ phase
    all_named true h e = sym ((bytes_eq-Decides phase (codes "all")).0 h)
    all_named false h e = cc
names_back scale clocks phases e g = tt

-- ---- lists of rules

all_back : (Q : Assumed → Type 0) (rs : List AssumeRule) → All Q (map assumed rs) → All (λ a. Q (assumed a)) rs
all_back Q [] all = All-nil (λ a. Q (assumed a))
all_back Q (r ∷ rs) all = All-cons (λ a. Q (assumed a)) r rs (All-head Q (assumed r) (map assumed rs) all) (all_back Q rs (All-tail Q (assumed r) (map assumed rs) all))

all_more : {X : Type 0} (P Q : X → Type 0) → ((x : X) → P x → Q x) → (xs : List X) → All P xs → All Q xs
all_more P Q more [] all = All-nil Q
all_more P Q more (x ∷ xs) all = All-cons Q x xs (more x (All-head P x xs all)) (all_more P Q more xs (All-tail P x xs all))

three_same : (a b : List ℕ) (m n : ℕ) (c d : List ℕ) → (bytes_eq a b && (m == n) && bytes_eq c d) ≡ true → (a ≡ b) × (m ≡ n) × (c ≡ d)
three_same a b m n c d e =
    let last = and_parts (bytes_eq a b && (m == n)) (bytes_eq c d) e in
    let first = and_parts (bytes_eq a b) (m == n) last.0 in
    ((bytes_eq-Decides a b).0 first.0, eqb-true m n first.1, (bytes_eq-Decides c d).0 last.1)

three_names : (a b c d e f : List ℕ) → (bytes_eq a b && bytes_eq c d && bytes_eq e f) ≡ true → (a ≡ b) × (c ≡ d) × (e ≡ f)
three_names a b c d e f h =
    let last = and_parts (bytes_eq a b && bytes_eq c d) (bytes_eq e f) h in
    let first = two_same a b c d last.0 in
    (first.0, first.1, (bytes_eq-Decides e f).0 last.1)

cell_key : (table : List ℕ) (a b c d : List ℕ) → (bytes_eq a b && bytes_eq c d) ≡ true → in_cell table a c ≡ in_cell table b d
cell_key table a b c d e = let both = two_same a b c d e in ap₂ (in_cell table) both.0 both.1

table_key : (table : List ℕ) (a b : List ℕ) → bytes_eq a b ≡ true → in_table table a ≡ in_table table b
table_key table a b e = ap (in_table table) ((bytes_eq-Decides a b).0 e)

inner_key : (table : List ℕ) {a b c d e f : List ℕ} → a ≡ b → c ≡ d → e ≡ f → within_cell table a c e ≡ within_cell table b d f
inner_key table {a} {b} {c} {d} {e} {f} x y z = ap₂ (λ cell word. within_cell table cell word e) x y ∙ ap (within_cell table b d) z

-- at most one, where all have one key
one_key : (rs : List DefaultclockRule) → NoRepeat (map defaultclock_key rs) → length rs ≤ 1
one_key [] n = omega arith
one_key (r ∷ []) n = omega arith
one_key (r ∷ s ∷ rs) n = absurd (clash (has_name (map defaultclock_key rs) (codes "defaultclock")) n.0) where
  clash : (b : Bool) → (bytes_eq (codes "defaultclock") (codes "defaultclock") || b) ≡ false → ⊥
  clash b e = let same : bytes_eq (codes "defaultclock") (codes "defaultclock") ≡ true = (bytes_eq-Decides (codes "defaultclock") (codes "defaultclock")).1 refl in no b (sym (ap (λ x. x || b) same) ∙ e) where
    no : (b : Bool) → (true || b) ≡ false → ⊥
    no b e = cc

-- ---- phases

abbrev name_of : Phase → List ℕ
name_of p = p.name

named_on : (clocks : List (List ℕ)) (line : ℕ) (e : Entry) → map name_of (phases_in clocks line e) ≡ phase_names_in e
named_on clocks line (PhaseLine name bits) = refl
named_on clocks line e = refl

phase_names : (clocks : List (List ℕ)) (cards : List Card) → map name_of (table (phases_in clocks) cards) ≡ told phase_names_in cards
phase_names clocks [] = refl
phase_names clocks (card ∷ cards) =
    map_join name_of (on_card (phases_in clocks) card) (table (phases_in clocks) cards) ∙ ap₂ (λ xs ys. xs ++ ys) (by_said card.entry) (phase_names clocks cards) where
      by_said : (o : Option Entry) → map name_of (by_entry (phases_in clocks) card.line o) ≡ by_entry (λ line. phase_names_in) card.line o
      by_said None = refl
      by_said (Some e) = named_on clocks card.line e

differs : (a b : List ℕ) → (a ≡ b → ⊥) → bytes_eq a b ≡ false
differs a b apart_ = by_test (bytes_eq a b) refl where
  by_test : (t : Bool) → bytes_eq a b ≡ t → t ≡ false
  by_test false e = refl
  by_test true e = absurd (apart_ ((bytes_eq-Decides a b).0 e))

not_same : (a b : List ℕ) → bytes_eq a b ≡ false → a ≡ b → ⊥
not_same a b e same = clash (sym ((bytes_eq-Decides a b).1 same) ∙ e) where
  clash : true ≡ false → ⊥
  clash e = cc

among_front : (ps : List Phase) (z : List ℕ) → has_name (map phase_key ps) (codes "phase " ++ z) ≡ false → has_name (map name_of ps) z ≡ false
among_front [] z e = refl
among_front (p ∷ ps) z e =
    let both = or_parts (bytes_eq (codes "phase " ++ z) (phase_key p)) (has_name (map phase_key ps) (codes "phase " ++ z)) e in
    or_from (bytes_eq z p.name) (has_name (map name_of ps) z)
    (differs z p.name (λ same. not_same (codes "phase " ++ z) (phase_key p) both.0 (ap (λ n. codes "phase " ++ n) same))) (among_front ps z both.1)

names_apart : (ps : List Phase) → NoRepeat (map phase_key ps) → NoRepeat (map name_of ps)
names_apart [] n = tt
names_apart (p ∷ ps) n = (among_front ps p.name n.0, names_apart ps n.1)

count_names : (clocks : List (List ℕ)) (cards : List Card) → NoRepeat (map phase_key (table (phases_in clocks) cards)) → length (phase_names_of cards) ≡ length (table (phases_in clocks) cards)
unfolding phase_names_of
count_names clocks cards n =
    let apart_ : NoRepeat (told phase_names_in cards) = subst NoRepeat (phase_names clocks cards) (names_apart (table (phases_in clocks) cards) n) in
    ap length (once_is_all (told phase_names_in cards) (apart (told phase_names_in cards) apart_))
    ∙ ap length (sym (phase_names clocks cards)) ∙ length-map (table (phases_in clocks) cards) name_of

some_phase : (clocks : List (List ℕ)) (ps : List Phase) → (0 < length (all_from clocks ps)) × (length ps ≤ length (all_from clocks ps))
some_phase clocks [] = (omega arith, omega arith)
some_phase clocks (p ∷ ps) = (omega arith, omega arith)

few_in_all : (clocks : List (List ℕ)) (ps : List Phase) → length ps ≤ 16 → length (all_from clocks ps) ≤ 16
few_in_all clocks [] few = omega arith
few_in_all clocks (p ∷ ps) few = few

all_apart : (clocks : List (List ℕ)) (ps : List Phase) → NoRepeat (map name_of ps) → NoRepeat (map name_of (all_from clocks ps))
all_apart clocks [] n = (refl, tt)
all_apart clocks (p ∷ ps) n = n

abbrev HasBits : List (List ℕ) → Phase → Type 0
HasBits clocks p = length p.bits ≡ length clocks

bits_on : (scale : ℕ) (clocks phases : List (List ℕ)) (line : ℕ) (e : Entry) → Good scale clocks phases e → All (HasBits clocks) (phases_in clocks line e)
bits_on scale clocks phases line (PhaseLine name bits) g =
    let r : Phase = record { line = line; name = name; bits = map (bit_for bits) clocks } in single (HasBits clocks) r (length-map clocks (bit_for bits))
bits_on scale clocks phases line e g = All-nil (HasBits clocks)

bits_in_all : (clocks : List (List ℕ)) (ps : List Phase) → All (HasBits clocks) ps → All (HasBits clocks) (all_from clocks ps)
bits_in_all clocks [] all =
    let r : Phase = record { line = 0; name = codes "all"; bits = map (λ c. false) clocks } in single (HasBits clocks) r (length-map clocks (λ c. false))
bits_in_all clocks (p ∷ ps) all = all

phase_of : (r : Rules) (o : Option ℕ) → IsBelow (length r.phases) o → IsPhaseOf r o
unfolding IsBelow
phase_of r None lt = tt
phase_of r (Some p) lt = lt

-- ---- the tests of AreRules

abbrev same_supplies : SupplyRule → SupplyRule → Bool
same_supplies a b = bytes_eq a.net b.net

abbrev same_devices : DeviceRule → DeviceRule → Bool
same_devices a b = bytes_eq a.model b.model

abbrev same_strengths : StrengthRule → StrengthRule → Bool
same_strengths a b = bytes_eq a.cell b.cell && bytes_eq a.device b.device

abbrev same_clockports : ClockportRule → ClockportRule → Bool
same_clockports a b = bytes_eq a.cell b.cell && bytes_eq a.port b.port

abbrev same_pairs : PairRule → PairRule → Bool
same_pairs a b = bytes_eq a.cell b.cell

abbrev same_ports : PortRule → PortRule → Bool
same_ports a b = bytes_eq a.cell b.cell && bytes_eq a.port b.port

abbrev same_holds : HoldRule → HoldRule → Bool
same_holds a b = bytes_eq a.cell b.cell && bytes_eq a.net b.net

abbrev same_keepers : KeeperRule → KeeperRule → Bool
same_keepers a b = bytes_eq a.cell b.cell && bytes_eq a.device b.device

abbrev same_matches : MatchRule → MatchRule → Bool
same_matches a b = bytes_eq a.cell b.cell && bytes_eq a.net b.net

abbrev same_instance_matches : InstanceMatchRule → InstanceMatchRule → Bool
same_instance_matches a b = bytes_eq a.cell b.cell && bytes_eq a.instance b.instance && bytes_eq a.inner b.inner

abbrev same_enters : EnterRule → EnterRule → Bool
same_enters a b = bytes_eq a.cell b.cell && (a.phase == b.phase) && bytes_eq a.net b.net

abbrev same_observes : ObserveRule → ObserveRule → Bool
same_observes a b = bytes_eq a.cell b.cell && bytes_eq a.port b.port

clocks_apart : (cards : List Card) → AllApart bytes_eq (clocks_of cards)
unfolding clocks_of
clocks_apart cards = apart (distinct (told clocks_in cards)) (once_apart (told clocks_in cards))

-- ---- the rules of lines without a fault

pub fits : (text : List ℕ) (r : Rules) → IsClean fault_of (cards_of text) → AreRulesOf (cards_of text) r → AreRules r
fits text r clean are =
    let cards = cards_of text in
    let from : CleanFrom fault_of [] cards = clean_from fault_of cards clean in
    let scale = scale_by cards in
    let clocks = clocks_of cards in
    let phases = phase_names_of cards in
    let t = are.tables in
    let devices_are : r.devices ≡ table (devices_in scale) cards = t.devices ∙ ap (λ s. table (devices_in s) cards) are.scale_is in
    let strengths_are : r.strengths ≡ table (strengths_in scale) cards = t.strengths ∙ ap (λ s. table (strengths_in s) cards) are.scale_is in
    let holds_are : r.holds ≡ table (holds_in scale) cards = t.holds ∙ ap (λ s. table (holds_in s) cards) are.scale_is in
    let good : AllSay (Good scale clocks phases) cards = both_say (Settled scale clocks phases) Ranged cards (settled cards from) (ranged text) in
    let keys : NoRepeat (told key_texts cards) = keys_apart cards from in
    let ps = table (phases_in clocks) cards in
    let phase_keys : NoRepeat (map phase_key ps) = no_repeat_within (table_within (phases_in clocks) phase_key (Good scale clocks phases) (λ line e g. phases_keyed clocks line e) cards good) keys in
    let count : length phases ≡ length ps = count_names clocks cards phase_keys in
    let some = some_phase clocks ps in
    let size : length r.phases ≡ length (all_from clocks ps) = ap length are.phases_are in
    let enough : Enough phases (length r.phases) = (omega (arith, size, some.0), omega (arith, size, some.1, count)) in
    record {
      scale = subst IsScale (sym are.scale_is) (is_scale cards (ranged text));
      clock_limit = omega (arith, ap length are.clocks_are, clocks_are_few cards from);
      clocks = subst (AllApart bytes_eq) (sym are.clocks_are) (clocks_apart cards);
      some_phase = enough.0;
      phase_limit = omega (arith, size, few_in_all clocks ps (omega (arith, count, phases_are_few cards from)));
      phases = subst (AllApart (λ (a b : Phase). bytes_eq a.name b.name)) (sym are.phases_are)
          (apart_by_key name_of (λ (a b : Phase). bytes_eq a.name b.name) (λ x y e. (bytes_eq-Decides x.name y.name).0 e) (all_from clocks ps) (all_apart clocks ps (names_apart ps phase_keys)));
      bits = subst (λ (xs : List Phase). All (λ (p : Phase). length p.bits ≡ length r.clocks) xs) (sym are.phases_are)
          (subst (λ (cs : List (List ℕ)). All (λ (p : Phase). length p.bits ≡ length cs) (all_from clocks ps)) (sym are.clocks_are)
          (bits_in_all clocks ps (table_all (phases_in clocks) (HasBits clocks) (Good scale clocks phases) (bits_on scale clocks phases) cards good)));
      supplies = subst (AllApart same_supplies) (sym t.supplies)
          (apart_by_key supply_key same_supplies (λ x y e. table_key (codes "supply ") x.net y.net e) (table supplies_in cards) (no_repeat_within (table_within supplies_in supply_key (Good scale clocks phases) (λ line e g. supplies_keyed line e) cards good) keys));
      devices = subst (AllApart same_devices) (sym devices_are)
          (apart_by_key device_key same_devices (λ x y e. table_key (codes "device ") x.model y.model e) (table (devices_in scale) cards) (no_repeat_within (table_within (devices_in scale) device_key (Good scale clocks phases) (λ line e g. devices_keyed scale line e) cards good) keys));
      device_levels = subst (λ s. All (λ (d : DeviceRule). IsDeviceLevelAt s d.level) r.devices) (sym are.scale_is)
          (subst (All (HasLevel scale)) (sym devices_are) (table_all (devices_in scale) (HasLevel scale) (Good scale clocks phases) (devices_level scale clocks phases) cards good));
      strengths = subst (AllApart same_strengths) (sym strengths_are)
          (apart_by_key strength_key same_strengths (λ x y e. cell_key (codes "strength ") x.cell y.cell x.device y.device e) (table (strengths_in scale) cards)
          (no_repeat_within (table_within (strengths_in scale) strength_key (Good scale clocks phases) (λ line e g. strengths_keyed scale line e) cards good) keys));
      strength_levels = subst (λ s. All (λ (x : StrengthRule). IsDeviceLevelAt s x.level) r.strengths) (sym are.scale_is)
          (subst (All (HasStrength scale)) (sym strengths_are) (table_all (strengths_in scale) (HasStrength scale) (Good scale clocks phases) (strengths_level scale clocks phases) cards good));
      clockports = subst (AllApart same_clockports) (sym t.clockports)
          (apart_by_key clockport_key same_clockports (λ x y e. cell_key (codes "clockport ") x.cell y.cell x.port y.port e) (table (clockports_in clocks) cards)
          (no_repeat_within (table_within (clockports_in clocks) clockport_key (Good scale clocks phases) (λ line e g. clockports_keyed clocks line e) cards good) keys));
      clockport_clocks = subst (λ (cs : List (List ℕ)). All (λ (c : ClockportRule). c.clock.clock < length cs) r.clockports) (sym are.clocks_are)
          (subst (All (HasClock clocks)) (sym t.clockports) (table_all (clockports_in clocks) (HasClock clocks) (Good scale clocks phases) (clockports_known scale clocks phases) cards good));
      defaultclock = omega (
        arith,
        ap length t.defaultclocks,
        one_key (table (defaultclocks_in clocks) cards)
            (no_repeat_within (table_within (defaultclocks_in clocks) defaultclock_key (Good scale clocks phases) (λ line e g. defaultclocks_keyed clocks line e) cards good) keys),
      );
      default_clocks = subst (λ (cs : List (List ℕ)). All (λ (c : DefaultclockRule). c.clock < length cs) r.defaultclocks) (sym are.clocks_are)
          (subst (All (HasDefault clocks)) (sym t.defaultclocks) (table_all (defaultclocks_in clocks) (HasDefault clocks) (Good scale clocks phases) (defaultclocks_known scale clocks phases) cards good));
      pairs = subst (AllApart same_pairs) (sym t.pairs)
          (apart_by_key pair_key same_pairs (λ x y e. table_key (codes "pair ") x.cell y.cell e) (table pairs_in cards) (no_repeat_within (table_within pairs_in pair_key (Good scale clocks phases) (λ line e g. pairs_keyed line e) cards good) keys));
      ports = subst (AllApart same_ports) (sym t.ports)
          (apart_by_key port_key same_ports (λ x y e. cell_key (codes "port ") x.cell y.cell x.port y.port e) (table ports_in cards)
          (no_repeat_within (table_within ports_in port_key (Good scale clocks phases) (λ line e g. ports_keyed line e) cards good) keys));
      holds = subst (AllApart same_holds) (sym holds_are)
          (apart_by_key hold_key same_holds (λ x y e. cell_key (codes "hold ") x.cell y.cell x.net y.net e) (table (holds_in scale) cards)
          (no_repeat_within (table_within (holds_in scale) hold_key (Good scale clocks phases) (λ line e g. holds_keyed scale line e) cards good) keys));
      sizes = subst (λ s. All (λ (h : HoldRule). IsHoldSizeAt s h.size) r.holds) (sym are.scale_is)
          (subst (All (HasSize scale)) (sym holds_are) (table_all (holds_in scale) (HasSize scale) (Good scale clocks phases) (holds_size scale clocks phases) cards good));
      keepers = subst (AllApart same_keepers) (sym t.keepers)
          (apart_by_key keeper_key same_keepers (λ x y e. cell_key (codes "keeper ") x.cell y.cell x.device y.device e) (table keepers_in cards)
          (no_repeat_within (table_within keepers_in keeper_key (Good scale clocks phases) (λ line e g. keepers_keyed line e) cards good) keys));
      matches = subst (AllApart same_matches) (sym t.matches)
          (apart_by_key match_key same_matches (λ x y e. cell_key (codes "match ") x.cell y.cell x.net y.net e) (table matches_in cards)
          (no_repeat_within (table_within matches_in match_key (Good scale clocks phases) (λ line e g. matches_keyed line e) cards good) keys));
      instance_matches = subst (AllApart same_instance_matches) (sym t.instance_matches)
          (apart_by_key instance_match_key same_instance_matches
          (λ x y e. let all = three_names x.cell y.cell x.instance y.instance x.inner y.inner e in inner_key (codes "match ") all.0 all.1 all.2) (table instance_matches_in cards)
          (no_repeat_within (table_within instance_matches_in instance_match_key (Good scale clocks phases) (λ line e g. instance_matches_keyed line e) cards good) keys));
      enters = subst (AllApart same_enters) (sym t.enters)
          (apart_by_key (enter_key (known_from phases)) same_enters
          (λ x y e. let all = three_same x.cell y.cell x.phase y.phase x.net y.net e in inner_key (codes "enter ") all.0 (ap (word_at (known_from phases)) all.1) all.2) (table (enters_in phases) cards)
          (no_repeat_within (table_within (enters_in phases) (enter_key (known_from phases)) (Good scale clocks phases) (λ line e g. enters_keyed phases line e (names_back scale clocks phases e g)) cards good) keys));
      enter_phases = subst (All (HasPhase (length r.phases))) (sym t.enters) (table_all (enters_in phases) (HasPhase (length r.phases)) (Good scale clocks phases) (enters_known scale clocks phases (length r.phases) enough) cards good);
      observes = subst (AllApart same_observes) (sym t.observes)
          (apart_by_key observe_key same_observes (λ x y e. cell_key (codes "observe ") x.cell y.cell x.port y.port e) (table (observes_in phases) cards)
          (no_repeat_within (table_within (observes_in phases) observe_key (Good scale clocks phases) (λ line e g. observes_keyed phases line e) cards good) keys));
      observe_phases = subst (All (HasPhases (length r.phases))) (sym t.observes) (table_all (observes_in phases) (HasPhases (length r.phases)) (Good scale clocks phases) (observes_known scale clocks phases (length r.phases) enough) cards good);
      assume_phases = all_more (λ (a : AssumeRule). IsBelow (length r.phases) a.phase) (λ (a : AssumeRule). IsPhaseOf r a.phase) (λ a lt. phase_of r a.phase lt) r.assumes
          (all_back (InPhase (length r.phases)) r.assumes
          (subst (All (InPhase (length r.phases))) (sym t.assumes) (table_all (assumes_in phases) (InPhase (length r.phases)) (Good scale clocks phases) (assumes_known scale clocks phases (length r.phases) enough) cards good)));
      assume_limit = all_more (λ (a : AssumeRule). operators_of (seen a.expression) ≤ 1000) (λ (a : AssumeRule). operators_in a.expression ≤ 1000) (λ a few. few_seen a.expression few) r.assumes
          (all_back HasFew r.assumes (subst (All HasFew) (sym t.assumes) (table_all (assumes_in phases) HasFew (Good scale clocks phases) (assumes_few scale clocks phases) cards good)));
    }
