-- What drives signals and what uses them.
use Rattle.std.proofs.Common.{◌≡◌, inl, inr, ◌<◌, ◌++◌, ◌∷◌, ◌&&◌, ◌||◌, [], ℕ, zero, suc, List, Bool, true, false, cond, not, map, flat_map, length, get_or, Option, Some, None, option_map, refl, ap, ap₂, sym, ◌∙◌, subst, take, drop, arith, append-nil, append_assoc}
use Rattle.std.specs.Prelude.{◌==◌, All, bytes_eq, filter, find, is_none, is_some, nat_lt, position, slice_get, unwrap_or}
use Rattle.std.specs.List.{list_any}
use Rattle.std.proofs.Math.Seq.{take-append_seam}
use Rattle.std.proofs.lemmas.Bool.{eqb-true, lt-ltb, or_parts}
use Rattle.std.proofs.lemmas.Bool.Decides.{nat_tests}
use Rattle.std.proofs.lemmas.List.{take-append-drop}
use Rattle.std.proofs.lemmas.List.Elements.{All-get_or}
use Rattle.std.proofs.lemmas.List.Folds.{list_any-append}
use Rattle.std.proofs.lemmas.Option.{get_or_from_slice_get, slice_get_within}
use Rattle.std.proofs.lemmas.List.Quantifiers.{position-Some}
use Rattle.vrt_model.proofs.Tests.{bytes_eq-sym}
use Rattle.vrt_model.specs.Lists.{distinct, has_name}
use Rattle.names.specs.Names.{with_names}
use Rattle.names.proofs.NameLaws.{once_has_same, once_of_three, with_names_are}
use Rattle.vrt_model.specs.FlatBlif.{model_at, model_numbered}
use Rattle.vrt_model.specs.Inputs.{IsBlif, IsModel}
use Rattle.vrt_model.specs.Models.{OnLine, drivers_in, interface_of, is_driving, is_reading, line_in, listed_inputs, on_line, on_lines, ties_on, uses_in}
use Rattle.vrt_model.specs.declared.blif.Blif.{Blif}
use Rattle.vrt_model.specs.declared.blif.BlifModel.{BlifModel}
use Rattle.vrt_model.specs.declared.blif.CoverLine.{CoverLine}
use Rattle.vrt_model.specs.declared.blif.LatchLine.{LatchLine}
use Rattle.vrt_model.specs.declared.blif.SubLine.{SubLine}
use Rattle.vrt_model.specs.declared.blif.Tie.{Tie}
use Rattle.blif_checks.specs.Drivers.{AreClocks, at_earlier, latch_uses, others}
use Rattle.blif_checks.specs.Tables.{AreTables, IsInterfaceSet}
use Rattle.blif_checks.specs.declared.mentions.Mention.{Mention}
use Rattle.blif_checks.specs.declared.tables.Tables.{Tables}
use Rattle.blif_checks.proofs.MentionLaws.{joined}
use Rattle.names.proofs.PlaceLaws.{any_placed, place_cons}
use Rattle.blif_checks.proofs.NoteLaws.{lt_no}
use Rattle.names.proofs.ApartLaws.{apart_named}
use Rattle.blif_checks.proofs.NameLaws.{interface_there, no_interface, no_model, place_is}

-- ---- the line of a listed name

listed_there : (names : List (List ℕ)) (lines : List ℕ) (name : List ℕ) (n line : ℕ) → bytes_eq name (get_or names n []) ≡ true → ((k : ℕ) → k < n → bytes_eq name (get_or names k []) ≡ false) → n < length names
    → slice_get lines n ≡ Some line → line_in (on_lines names lines) name ≡ Some line
listed_there [] lines name n line here before lt at = absurd (omega arith)
listed_there (x ∷ names) [] name n line here before lt at = cc
listed_there (x ∷ names) (l ∷ lines) name zero line here before lt at =
    let same : l ≡ line = cc in
    ap (λ b. option_map (λ (o : OnLine). o.line) (cond b (Some (on_line l x)) (find (λ (o : OnLine). bytes_eq o.name name) (on_lines names lines)))) (bytes_eq-sym x name ∙ here) ∙ ap Some same
listed_there (x ∷ names) (l ∷ lines) name (suc n) line here before lt at =
    ap (λ b. option_map (λ (o : OnLine). o.line) (cond b (Some (on_line l x)) (find (λ (o : OnLine). bytes_eq o.name name) (on_lines names lines)))) (bytes_eq-sym x name ∙ before 0 (omega arith))
    ∙ listed_there names lines name n line here (λ k lt. before (suc k) (omega arith)) (omega arith) at

pub none_listed : (names : List (List ℕ)) (lines : List ℕ) (name : List ℕ) → length lines ≡ length names → is_none (line_in (on_lines names lines) name) ≡ not (has_name names name)
none_listed [] lines name e = refl
none_listed (x ∷ names) [] name e = absurd (omega (arith, e))
none_listed (x ∷ names) (l ∷ lines) name e =
    ap (λ b. is_none (option_map (λ (o : OnLine). o.line) (cond b (Some (on_line l x)) (find (λ (o : OnLine). bytes_eq o.name name) (on_lines names lines))))) (bytes_eq-sym x name)
    ∙ by_test (bytes_eq name x) (none_listed names lines name (omega (arith, e))) where
      by_test : (b : Bool) → is_none (line_in (on_lines names lines) name) ≡ not (has_name names name)
          → is_none (option_map (λ (o : OnLine). o.line) (cond b (Some (on_line l x)) (find (λ (o : OnLine). bytes_eq o.name name) (on_lines names lines)))) ≡ not (b || has_name names name)
      by_test true rest = refl
      by_test false rest = rest

pub line_some : (names : List (List ℕ)) (lines : List ℕ) (name : List ℕ) (n line : ℕ) → position (bytes_eq name) names ≡ Some n → slice_get lines n ≡ Some line → line_in (on_lines names lines) name ≡ Some line
line_some names lines name n line e at =
    let here = position-Some (bytes_eq name) names n [] e in listed_there names lines name n line here.1 here.2 here.0 at

pub line_none : (names : List (List ℕ)) (lines : List ℕ) (name : List ℕ) → length lines ≡ length names → position (bytes_eq name) names ≡ None → line_in (on_lines names lines) name ≡ None
line_none names lines name count e =
    none_is (line_in (on_lines names lines) name) (none_listed names lines name count ∙ ap not (any_placed (bytes_eq name) names ∙ ap is_some e)) where
      none_is : (o : Option ℕ) → is_none o ≡ true → o ≡ None
      none_is None e = refl
      none_is (Some x) e = cc

pub line_past : (names : List (List ℕ)) (lines : List ℕ) (name : List ℕ) (n : ℕ) → length lines ≡ length names → position (bytes_eq name) names ≡ Some n → slice_get lines n ≡ None → ⊥
line_past names lines name n count e at =
    let here = position-Some (bytes_eq name) names n [] e in past lines n (omega (arith, here.0, count)) at where
      past : (lines : List ℕ) (n : ℕ) → n < length lines → slice_get lines n ≡ None → ⊥
      past [] n lt at = absurd (omega arith)
      past (l ∷ lines) zero lt at = cc
      past (l ∷ lines) (suc n) lt at = past lines n (omega arith) at

-- a name is listed on the line at its place
pub line_is : (names : List (List ℕ)) (lines : List ℕ) (name : List ℕ) (n : ℕ) → length lines ≡ length names → position (bytes_eq name) names ≡ Some n → slice_get lines n ≡ line_in (on_lines names lines) name
line_is names lines name n count e = by_line (slice_get lines n) refl where
  by_line : (o : Option ℕ) → slice_get lines n ≡ o → slice_get lines n ≡ line_in (on_lines names lines) name
  by_line None at = absurd (line_past names lines name n count e at)
  by_line (Some line) at = at ∙ sym (line_some names lines name n line e at)

-- ---- the inputs and clocks of a model

others_same : (p q : OnLine → Bool) (list : List OnLine) → ((o : OnLine) → p o ≡ q o) → filter p list ≡ filter q list
others_same p q [] same = refl
others_same p q (o ∷ list) same = ap₂ (λ b rest. cond b (o ∷ rest) rest) (same o) (others_same p q list same)

-- the clocks that are no inputs, by the names of the inputs once
pub clocks_are : (g : OnLine → Mention) (m : BlifModel) (inputs ins clks : List (List ℕ)) (clines : List ℕ) (old new : List Mention) → IsModel m → inputs ≡ with_names [] ins → ins ≡ m.inputs → clks ≡ m.clocks → clines ≡ m.clock_lines
    → new ≡ old ++ map g (others inputs (on_lines clks clines)) → new ≡ old ++ map g (others m.inputs (on_lines m.clocks m.clock_lines))
clocks_are g m inputs ins clks clines old new is i ie ce cl e =
    e ∙ ap₂ (λ (a : List (List ℕ)) (b : List OnLine). old ++ map g (others a b)) (i ∙ ap (with_names []) ie ∙ apart_named m.inputs is.inputs) (ap₂ on_lines ce cl)

-- there are none where there are no clocks
pub no_clocks : (g : OnLine → Mention) (names clocks : List (List ℕ)) (lines : List ℕ) (old : List Mention) → (length clocks == 0) ≡ true → old ≡ old ++ map g (others names (on_lines clocks lines))
no_clocks g names [] lines old e = sym (append-nil old)
no_clocks g names (c ∷ clocks) lines old e = let none : length (c ∷ clocks) ≡ 0 = eqb-true (length (c ∷ clocks)) 0 e in absurd (omega (arith, none))

-- the names of each once are the names, so the lists of the code are those of the definition
pub heads_are : (g : OnLine → Mention) (m : BlifModel) (clocks ins : List (List ℕ)) (ilines clines : List ℕ) (old mid new : List Mention) → IsModel m → clocks ≡ with_names [] m.clocks
    → ins ≡ m.inputs → ilines ≡ m.input_lines → clines ≡ m.clock_lines
    → mid ≡ old ++ map g (map (at_earlier (on_lines clocks clines)) (on_lines ins ilines)) → new ≡ mid ++ map g (others m.inputs (on_lines m.clocks m.clock_lines)) → new ≡ old ++ map g (listed_inputs m)
heads_are g m clocks ins ilines clines old mid new is c ie il cl e n =
    joined g (map (at_earlier (on_lines m.clocks m.clock_lines)) (on_lines m.inputs m.input_lines)) (others m.inputs (on_lines m.clocks m.clock_lines)) old mid new
    (e ∙ ap₂ (λ (a : List OnLine) (b : List OnLine). old ++ map g (map (at_earlier a) b)) (ap₂ on_lines (c ∙ apart_named m.clocks is.clocks) cl) (ap₂ on_lines ie il)) n
    ∙ ap (λ (l : List OnLine). old ++ map g (map (at_earlier (on_lines m.clocks m.clock_lines)) (on_lines m.inputs m.input_lines) ++ l))
    (others_same (λ (o : OnLine). not (has_name m.inputs o.name)) (λ (o : OnLine). is_none (line_in (on_lines m.inputs m.input_lines) o.name)) (on_lines m.clocks m.clock_lines)
    (λ o. sym (none_listed m.inputs m.input_lines o.name is.input_lines)))

pub clock_count : (m : BlifModel) (clocks : List (List ℕ)) (lines : List ℕ) → IsModel m → clocks ≡ with_names [] m.clocks → lines ≡ m.clock_lines → length lines ≡ length clocks
clock_count m clocks lines is c l = ap length l ∙ is.clock_lines ∙ sym (ap length (c ∙ apart_named m.clocks is.clocks))

-- ---- what a sub-model reads and drives

list_at : (f : BlifModel → List (List ℕ)) (ms : List BlifModel) (n : ℕ) → f (record { line = 0; name = []; inputs = []; input_lines = []; clocks = []; clock_lines = []; outputs = []; output_lines = []; covers = []; latches = []; subs = []; exdc = [] }) ≡ []
    → get_or (map f ms) n []
    ≡ f (unwrap_or (slice_get ms n) (record { line = 0; name = []; inputs = []; input_lines = []; clocks = []; clock_lines = []; outputs = []; output_lines = []; covers = []; latches = []; subs = []; exdc = [] }))
list_at f [] n e = sym e
list_at f (m ∷ ms) zero e = refl
list_at f (m ∷ ms) (suc n) e = list_at f ms n e

-- among so many that come first
pub first_among : (p : List ℕ → Bool) (xs : List (List ℕ)) (count n : ℕ) → position p xs ≡ Some n → nat_lt n count ≡ list_any p (take count xs)
first_among p [] count n e = cc
first_among p (x ∷ xs) zero n e = lt_no n 0 (omega arith)
first_among p (x ∷ xs) (suc count) n e = by_test (p x) (position p xs) refl (first_among p xs count) n (sym (place_cons p x xs) ∙ e) where
  by_test : (b : Bool) (o : Option ℕ) → position p xs ≡ o → ((k : ℕ) → position p xs ≡ Some k → nat_lt k count ≡ list_any p (take count xs)) → (n : ℕ) → cond b (Some 0) (option_map suc o) ≡ Some n → nat_lt n (suc count) ≡ (b || list_any p (take count xs))
  by_test true o h rest n e = let same : 0 ≡ n = cc in ap (λ k. nat_lt k (suc count)) (sym same) ∙ lt-ltb 0 (suc count) (omega arith)
  by_test false None h rest n e = cc
  by_test false (Some k) h rest n e = let same : suc k ≡ n = cc in ap (λ k. nat_lt k (suc count)) (sym same) ∙ one_less k ∙ rest k h where
    one_less : (k : ℕ) → nat_lt (suc k) (suc count) ≡ nat_lt k count
    one_less k = grind (arith, nat_tests)

pub none_among : (p : List ℕ → Bool) (xs : List (List ℕ)) (count : ℕ) → position p xs ≡ None → list_any p (take count xs) ≡ false
none_among p xs count e = (or_parts (list_any p (take count xs)) (list_any p (drop count xs)) (sym (list_any-append p (take count xs) (drop count xs)) ∙ ap (list_any p) (take-append-drop count xs) ∙ any_placed p xs ∙ ap is_some e)).0

-- the inputs of a model come first in its interface
pub inputs_first : (m : BlifModel) → IsModel m → take (length m.inputs) (distinct (interface_of m)) ≡ m.inputs
inputs_first m is =
    let once : with_names [] m.inputs ≡ m.inputs = apart_named m.inputs is.inputs in
    let all : distinct (interface_of m) ≡ with_names (with_names m.inputs m.clocks) m.outputs = sym (once_of_three m.inputs m.clocks m.outputs) ∙ ap (λ (ns : List (List ℕ)). with_names (with_names ns m.clocks) m.outputs) once in
    let others = distinct (filter (λ (y : List ℕ). not (has_name m.inputs y)) m.clocks) in
    let more = distinct (filter (λ (y : List ℕ). not (has_name (m.inputs ++ others) y)) m.outputs) in
    let split : with_names (with_names m.inputs m.clocks) m.outputs ≡ m.inputs ++ others ++ more =
    ap (λ (ns : List (List ℕ)). with_names ns m.outputs) (with_names_are m.inputs m.clocks) ∙ with_names_are (m.inputs ++ others) m.outputs in
    ap (take (length m.inputs)) (all ∙ split ∙ append_assoc m.inputs others more) ∙ take-append_seam m.inputs (others ++ more)

-- by the tables
model_there : (models : List BlifModel) (n : ℕ) (m : BlifModel) → slice_get models n ≡ Some m → All IsModel models → IsModel m
model_there models n m here are = subst IsModel (get_or_from_slice_get models n m m here) (All-get_or IsModel models n m (slice_get_within models n m here) are)

-- where a set of an interface is not empty
pub input_is : (blif : Blif) (tables : Tables) (clocks : List (List (List ℕ))) (n : ℕ) (names : List (List ℕ)) (name : List ℕ) → AreTables blif tables → AreClocks blif clocks
    → slice_get tables.interfaces n ≡ Some names → (length names == 0) ≡ false → has_name (take (length (model_at blif n).inputs) names) name ≡ has_name (model_at blif n).inputs name
input_is blif tables clocks n names name are is at some = by_model (slice_get blif.models n) refl where
  first_in : (m : BlifModel) → IsModel m → (names : List (List ℕ)) → IsInterfaceSet m names → (length names == 0) ≡ false → has_name (take (length m.inputs) names) name ≡ has_name m.inputs name
  first_in m one [] (inl e) some = cc
  first_in m one (x ∷ names) (inl e) some = cc
  first_in m one names (inr e) some = ap (λ (ns : List (List ℕ)). has_name (take (length m.inputs) ns) name) e ∙ ap (λ (ns : List (List ℕ)). has_name ns name) (inputs_first m one)

  by_model : (o : Option BlifModel) → slice_get blif.models n ≡ o → has_name (take (length (model_at blif n).inputs) names) name ≡ has_name (model_at blif n).inputs name
  by_model None here = absurd (no_interface blif tables n names are at here)
  by_model (Some m) here =
      let is_m : model_at blif n ≡ m = ap (λ (o : Option BlifModel). unwrap_or o (record { line = 0; name = []; inputs = []; input_lines = []; clocks = []; clock_lines = []; outputs = []; output_lines = []; covers = []; latches = []; subs = []; exdc = [] })) here in
      ap (λ (x : BlifModel). has_name (take (length x.inputs) names) name) is_m
      ∙ first_in m (model_there blif.models n m here is.models) names (interface_there blif tables n m names are here at) some ∙ ap (λ (x : BlifModel). has_name x.inputs name) (sym is_m)

pub input_none : (blif : Blif) (tables : Tables) (n : ℕ) (name : List ℕ) → AreTables blif tables → slice_get tables.interfaces n ≡ None → has_name (model_at blif n).inputs name ≡ false
input_none blif tables n name are at = ap (λ (m : BlifModel). has_name m.inputs name) (no_model blif tables n are at)

-- the clocks of the models of a file
pub clocks_given : (blif : Blif) (listed clocks : List (List (List ℕ))) (models : List BlifModel) → IsBlif blif → clocks ≡ listed → listed ≡ map (λ (m : BlifModel). distinct m.clocks) models → models ≡ blif.models → AreClocks blif clocks
clocks_given blif listed clocks models is e l m = record {
  models = is.models;
  clocks_are = e ∙ l ∙ ap (map (λ (m : BlifModel). distinct m.clocks)) m;
}

clocks_at : (blif : Blif) (tables : Tables) (clocks : List (List (List ℕ))) (name f : List ℕ) (number : ℕ) → AreTables blif tables → AreClocks blif clocks → number ≡ unwrap_or (position (bytes_eq name) tables.names) 0
    → has_name (get_or clocks number []) f ≡ has_name (model_at blif (model_numbered blif name)).clocks f
clocks_at blif tables clocks name f number are is n =
    ap₂ (λ (xs : List (List (List ℕ))) k. has_name (get_or xs k []) f) is.clocks_are (n ∙ ap (λ (o : Option ℕ). unwrap_or o 0) (place_is blif tables name are))
    ∙ ap (λ (ns : List (List ℕ)). has_name ns f) (list_at (λ (m : BlifModel). distinct m.clocks) blif.models (model_numbered blif name) refl)
    ∙ once_has_same (model_at blif (model_numbered blif name)).clocks f

pub reading_is : (blif : Blif) (tables : Tables) (clocks : List (List (List ℕ))) (s : SubLine) (t : Tie) (name f : List ℕ) (number : ℕ) → AreTables blif tables → AreClocks blif clocks → name ≡ s.model → f ≡ t.formal
    → number ≡ unwrap_or (position (bytes_eq name) tables.names) 0 → (has_name (model_at blif number).inputs f || has_name (get_or clocks number []) f) ≡ is_reading blif s t
reading_is blif tables clocks s t name f number are is sn fn n =
    let numbered : number ≡ unwrap_or (position (bytes_eq s.model) tables.names) 0 = n ∙ ap (λ (x : List ℕ). unwrap_or (position (bytes_eq x) tables.names) 0) sn in
    let m = model_at blif (model_numbered blif s.model) in
    ap (λ (x : List ℕ). has_name (model_at blif number).inputs x || has_name (get_or clocks number []) x) fn
    ∙ ap₂ (λ (k : ℕ) b. has_name (model_at blif k).inputs t.formal || b) (numbered ∙ ap (λ (o : Option ℕ). unwrap_or o 0) (place_is blif tables s.model are)) (clocks_at blif tables clocks s.model t.formal number are is numbered)
    ∙ sym (list_any-append (bytes_eq t.formal) m.inputs m.clocks)

pub driving_is : (blif : Blif) (tables : Tables) (s : SubLine) (t : Tie) (name f : List ℕ) (number : ℕ) → AreTables blif tables → name ≡ s.model → f ≡ t.formal
    → number ≡ unwrap_or (position (bytes_eq name) tables.names) 0 → (has_name (interface_of (model_at blif number)) f && not (is_reading blif s t)) ≡ is_driving blif s t
driving_is blif tables s t name f number are sn fn n =
    ap (λ a. a && not (is_reading blif s t))
    (ap₂ (λ (k : ℕ) (x : List ℕ). has_name (interface_of (model_at blif k)) x) (n ∙ ap (λ (x : List ℕ). unwrap_or (position (bytes_eq x) tables.names) 0) sn ∙ ap (λ (o : Option ℕ). unwrap_or o 0) (place_is blif tables s.model are)) fn
    ∙ list_any-append (bytes_eq t.formal) ((model_at blif (model_numbered blif s.model)).inputs ++ (model_at blif (model_numbered blif s.model)).clocks) (model_at blif (model_numbered blif s.model)).outputs)
    ∙ by_tests (is_reading blif s t) (has_name (model_at blif (model_numbered blif s.model)).outputs t.formal) where
      by_tests : (r o : Bool) → ((r || o) && not r) ≡ (o && not r)
      by_tests true true = refl
      by_tests true false = refl
      by_tests false true = refl
      by_tests false false = refl

-- ---- all of a model

pub drivers_are : (blif : Blif) (m : BlifModel) (g : OnLine → Mention) (covers : List CoverLine) (latches : List LatchLine) (subs : List SubLine) (none a b c d : List Mention) → none ≡ [] → covers ≡ m.covers → latches ≡ m.latches → subs ≡ m.subs
    → a ≡ none ++ map g (listed_inputs m) → b ≡ a ++ map g (map (λ (x : CoverLine). on_line x.line x.output) covers) → c ≡ b ++ map g (map (λ (x : LatchLine). on_line x.line x.output) latches)
    → d ≡ c ++ map g (flat_map (λ (s : SubLine). ties_on (is_driving blif s) s) subs) → d ≡ map g (drivers_in blif m)
drivers_are blif m g covers latches subs none a b c d n ec el es ea eb ecc ed =
    joined g (listed_inputs m ++ map (λ (x : CoverLine). on_line x.line x.output) m.covers ++ map (λ (x : LatchLine). on_line x.line x.output) m.latches) (flat_map (λ (s : SubLine). ties_on (is_driving blif s) s) m.subs) [] c d
    (joined g (listed_inputs m ++ map (λ (x : CoverLine). on_line x.line x.output) m.covers) (map (λ (x : LatchLine). on_line x.line x.output) m.latches) [] b c
    (joined g (listed_inputs m) (map (λ (x : CoverLine). on_line x.line x.output) m.covers) [] a b (ea ∙ ap (λ (l : List Mention). l ++ map g (listed_inputs m)) n)
    (eb ∙ ap (λ (xs : List CoverLine). a ++ map g (map (λ (x : CoverLine). on_line x.line x.output) xs)) ec))
    (ecc ∙ ap (λ (xs : List LatchLine). b ++ map g (map (λ (x : LatchLine). on_line x.line x.output) xs)) el))
    (ed ∙ ap (λ (xs : List SubLine). c ++ map g (flat_map (λ (s : SubLine). ties_on (is_driving blif s) s) xs)) es)

pub uses_are : (blif : Blif) (m : BlifModel) (g : OnLine → Mention) (covers : List CoverLine) (latches : List LatchLine) (subs : List SubLine) (outputs : List (List ℕ)) (lines : List ℕ) (none a b c d : List Mention) → none ≡ [] → covers ≡ m.covers
    → latches ≡ m.latches → subs ≡ m.subs → outputs ≡ m.outputs → lines ≡ m.output_lines → a ≡ none ++ map g (flat_map (λ (x : CoverLine). map (on_line x.line) x.inputs) covers) → b ≡ a ++ map g (flat_map latch_uses latches)
    → c ≡ b ++ map g (flat_map (λ (s : SubLine). ties_on (is_reading blif s) s) subs) → d ≡ c ++ map g (on_lines outputs lines) → d ≡ map g (uses_in blif m)
uses_are blif m g covers latches subs outputs lines none a b c d n ec el es eo eol ea eb ecc ed =
    joined g (flat_map (λ (x : CoverLine). map (on_line x.line) x.inputs) m.covers ++ flat_map latch_uses m.latches ++ flat_map (λ (s : SubLine). ties_on (is_reading blif s) s) m.subs) (on_lines m.outputs m.output_lines) [] c d
    (joined g (flat_map (λ (x : CoverLine). map (on_line x.line) x.inputs) m.covers ++ flat_map latch_uses m.latches) (flat_map (λ (s : SubLine). ties_on (is_reading blif s) s) m.subs) [] b c
    (joined g (flat_map (λ (x : CoverLine). map (on_line x.line) x.inputs) m.covers) (flat_map latch_uses m.latches) [] a b
    (ea ∙ ap₂ (λ (l : List Mention) (xs : List CoverLine). l ++ map g (flat_map (λ (x : CoverLine). map (on_line x.line) x.inputs) xs)) n ec)
    (eb ∙ ap (λ (xs : List LatchLine). a ++ map g (flat_map latch_uses xs)) el))
    (ecc ∙ ap (λ (xs : List SubLine). b ++ map g (flat_map (λ (s : SubLine). ties_on (is_reading blif s) s) xs)) es))
    (ed ∙ ap (λ (xs : List OnLine). c ++ map g xs) (ap₂ on_lines eo eol))
