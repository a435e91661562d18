-- Each signal has one driver, so no line has a fault of drivers.
use Rattle.std.proofs.Common.{◌≡◌, ℕ, zero, suc, ◌+◌, ◌≤◌, ◌<◌, ◌&&◌, Bool, true, false, not, cond, List, [], ◌∷◌, ◌++◌, Option, Some, None, length, map, append_assoc, append-nil, arith, ap, ap₂, refl, sym, subst, ◌∙◌, inl, inr}
use Rattle.std.specs.Prelude.{bytes_eq, filter, find, flat_map, is_none, min, nat_lt, option_map, slice_get, unwrap_or, ◌==◌}
use Rattle.std.specs.List.{cons_option, list_any}
use Rattle.std.specs.Option.{option_or}
use Rattle.std.proofs.lemmas.Bool.{cases_Bool, false≢true, false_from_ne_true, le-ltb, or_parts}
use Rattle.std.proofs.lemmas.List.{map-append}
use Rattle.std.proofs.lemmas.Option.{none-some}
use Rattle.names.proofs.ApartLaws.{NoRepeat, once_by}
use Rattle.plain_models.proofs.CardKinds.{Each}
use Rattle.plain_models.proofs.NamesApart.{apart_from, none_named, one_named, some_named}
use Rattle.plain_models.specs.Flat.{HasDrivers, driven_names, used_names}
use Rattle.plain_models.specs.Texts.{PlainCover, PlainModel, alone, covers_from, model_on_lines, outputs_line}
use Rattle.vrt_model.proofs.Lists.{at_front, filter_map_none, no_items}
use Rattle.vrt_model.proofs.Tests.{bytes_eq-sym}
use Rattle.vrt_model.specs.Inputs.{AllApart}
use Rattle.vrt_model.specs.Lists.{has_name}
use Rattle.vrt_model.specs.Models.{AreModels, DriverFault, Never, OnLine, Twice, count_lines, driver_fault, drivers_in, drivers_of_name, earlier_fault, fault_on, is_driven_twice_on, is_least_bad, is_undriven_on, line_in, lines_of, models_within, names_on, network_of, on_line, on_lines, own_fault, uses_in, uses_of_name}
use Rattle.vrt_model.specs.Nesting.{IsWithin, depth_in, directly, further, greatest}
use Rattle.vrt_model.specs.declared.blif.Blif.{Blif}
use Rattle.vrt_model.specs.declared.blif.CoverLine.{CoverLine}

-- ---- names on lines

abbrev name_of : OnLine → List ℕ
name_of o = o.name

named : (line : ℕ) (xs : List (List ℕ)) → map name_of (on_lines xs (map (λ x. line) xs)) ≡ xs
named line [] = refl
named line (x ∷ xs) = ap (λ (ys : List (List ℕ)). x ∷ ys) (named line xs)

-- also where the lines are changed
renamed : (line : ℕ) (f : OnLine → ℕ) (xs : List (List ℕ)) → map name_of (map (λ (o : OnLine). on_line (f o) o.name) (on_lines xs (map (λ x. line) xs))) ≡ xs
renamed line f [] = refl
renamed line f (x ∷ xs) = ap (λ (ys : List (List ℕ)). x ∷ ys) (renamed line f xs)

unlisted : (line : ℕ) (xs : List (List ℕ)) (name : List ℕ) → has_name xs name ≡ false → line_in (on_lines xs (map (λ x. line) xs)) name ≡ None
unlisted line xs name e = ap (option_map (λ (o : OnLine). o.line)) (none xs e)
  where
    none : (ys : List (List ℕ)) → has_name ys name ≡ false → find (λ (o : OnLine). bytes_eq o.name name) (on_lines ys (map (λ y. line) ys)) ≡ None
    none [] f = refl
    none (y ∷ ys) f =
        let p = or_parts (bytes_eq name y) (has_name ys name) f in
        ap (λ (t : Bool). cond t (Some (on_line line y)) (find (λ (o : OnLine). bytes_eq o.name name) (on_lines ys (map (λ z. line) ys)))) (bytes_eq-sym y name ∙ p.0) ∙ none ys p.1

-- clocks that are no inputs
kept_clocks : (inputs : List OnLine) (line : ℕ) (clocks : List (List ℕ)) → Each (λ x. line_in inputs x ≡ None) clocks
    → map name_of (filter (λ (o : OnLine). is_none (line_in inputs o.name)) (on_lines clocks (map (λ x. line) clocks))) ≡ clocks
kept_clocks inputs line [] e = refl
kept_clocks inputs line (x ∷ xs) e =
    let rest = filter (λ (o : OnLine). is_none (line_in inputs o.name)) (on_lines xs (map (λ y. line) xs)) in
    ap (λ (t : Bool). map name_of (cond t (on_line line x ∷ rest) rest)) (ap is_none e.0) ∙ ap (λ (ys : List (List ℕ)). x ∷ ys) (kept_clocks inputs line xs e.1)

covers_named : (covers : List PlainCover) (line : ℕ) → map name_of (map (λ (c : CoverLine). on_line c.line c.output) (covers_from line covers)) ≡ map (λ (c : PlainCover). c.output) covers
covers_named [] line = refl
covers_named (cover ∷ covers) line = ap (λ (ys : List (List ℕ)). cover.output ∷ ys) (covers_named covers (line + 1 + length cover.rows))

on_one_line : (line : ℕ) (xs : List (List ℕ)) → map name_of (map (on_line line) xs) ≡ xs
on_one_line line [] = refl
on_one_line line (x ∷ xs) = ap (λ (ys : List (List ℕ)). x ∷ ys) (on_one_line line xs)

reads_named : (covers : List PlainCover) (line : ℕ) → map name_of (flat_map (λ (c : CoverLine). map (on_line c.line) c.inputs) (covers_from line covers)) ≡ flat_map (λ (c : PlainCover). c.inputs) covers
reads_named [] line = refl
reads_named (cover ∷ covers) line =
    let next = line + 1 + length cover.rows in
    map-append name_of (map (on_line line) cover.inputs) (flat_map (λ (c : CoverLine). map (on_line c.line) c.inputs) (covers_from next covers))
    ∙ ap₂ (λ (xs ys : List (List ℕ)). xs ++ ys) (on_one_line line cover.inputs) (reads_named covers next)

-- ---- counts

-- those of a name, counted by the names alone
named_count : (os : List OnLine) (name : List ℕ) → length (filter (λ (o : OnLine). bytes_eq o.name name) os) ≡ length (filter (λ x. bytes_eq x name) (map name_of os))
named_count [] name = refl
named_count (o ∷ os) name = by_test (bytes_eq o.name name) (named_count os name)
  where
    by_test : (b : Bool) → length (filter (λ (p : OnLine). bytes_eq p.name name) os) ≡ length (filter (λ x. bytes_eq x name) (map name_of os)) → length (cond b (o ∷ filter (λ (p : OnLine). bytes_eq p.name name) os) (filter (λ (p : OnLine). bytes_eq p.name name) os))
        ≡ length (cond b (o.name ∷ filter (λ x. bytes_eq x name) (map name_of os)) (filter (λ x. bytes_eq x name) (map name_of os)))
    by_test true rest = ap suc rest
    by_test false rest = rest

filter_shorter : {X : Type 0} (p : X → Bool) (xs : List X) → length (filter p xs) ≤ length xs
filter_shorter p [] = omega arith
filter_shorter p (x ∷ xs) = by_test (p x) (filter_shorter p xs)
  where
    by_test : (b : Bool) → length (filter p xs) ≤ length xs → length (cond b (x ∷ filter p xs) (filter p xs)) ≤ suc (length xs)
    by_test true h = omega (arith, h)
    by_test false h = omega (arith, h)

some_first : {X : Type 0} (xs : List X) → 0 < length xs → is_none (slice_get xs 0) ≡ false
some_first [] lt = absurd (omega (arith, lt))
some_first (x ∷ xs) lt = refl

not_found : {X : Type 0} (p : X → Bool) (xs : List X) → ((x : X) → p x ≡ false) → find p xs ≡ None
not_found p [] f = refl
not_found p (x ∷ xs) f = ap (λ (t : Bool). cond t (Some x) (find p xs)) (f x) ∙ not_found p xs f

-- ---- one model

module _ (m : PlainModel) (drivers : HasDrivers m) where
  abbrev own : Blif
  own = alone m

  once : NoRepeat (driven_names m)
  once = once_by (driven_names m) drivers.apart

  -- no clock is an input
  pub clocks_apart : Each (λ x. has_name m.inputs x ≡ false) m.clocks
  clocks_apart =
      let outs = map (λ (c : PlainCover). c.output) m.covers in
      front m.clocks outs (apart_from m.inputs (m.clocks ++ outs) (subst NoRepeat (append_assoc m.inputs m.clocks outs) once))
    where
      front : (xs ys : List (List ℕ)) → Each (λ x. has_name m.inputs x ≡ false) (xs ++ ys) → Each (λ x. has_name m.inputs x ≡ false) xs
      front [] ys e = tt
      front (x ∷ xs) ys e = (e.0, front xs ys e.1)

  unlisted_clocks : (xs : List (List ℕ)) → Each (λ x. has_name m.inputs x ≡ false) xs → Each (λ x. line_in (on_lines m.inputs (map (λ y. 2) m.inputs)) x ≡ None) xs
  unlisted_clocks [] e = tt
  unlisted_clocks (x ∷ xs) e = (unlisted 2 m.inputs x e.0, unlisted_clocks xs e.1)

  drivers_named : map name_of (drivers_in own (model_on_lines m)) ≡ driven_names m
  drivers_named =
      let inputs = on_lines m.inputs (map (λ x. 2) m.inputs) in
      let clocks = on_lines m.clocks (map (λ x. 3) m.clocks) in
      let covers = map (λ (c : CoverLine). on_line c.line c.output) (covers_from (outputs_line m + 1) m.covers) in
      let first = map (λ (o : OnLine). on_line (min o.line (unwrap_or (line_in clocks o.name) o.line)) o.name) inputs in
      let second = filter (λ (o : OnLine). is_none (line_in inputs o.name)) clocks in
      let listed = first ++ second in
      ap (map name_of) (append-nil ((listed ++ covers) ++ []) ∙ append-nil (listed ++ covers))
      ∙ map-append name_of listed covers
      ∙ ap₂ (λ (xs ys : List (List ℕ)). xs ++ ys)
      (map-append name_of first second ∙ ap₂ (λ (xs ys : List (List ℕ)). xs ++ ys) (renamed 2 (λ (o : OnLine). min o.line (unwrap_or (line_in clocks o.name) o.line)) m.inputs) (kept_clocks inputs 3 m.clocks (unlisted_clocks m.clocks clocks_apart)))
      (covers_named m.covers (outputs_line m + 1))

  uses_named : map name_of (uses_in own (model_on_lines m)) ≡ used_names m
  uses_named =
      let reads = flat_map (λ (c : CoverLine). map (on_line c.line) c.inputs) (covers_from (outputs_line m + 1) m.covers) in
      let outputs = on_lines m.outputs (map (λ x. outputs_line m) m.outputs) in
      ap (λ (os : List OnLine). map name_of (os ++ outputs)) (append-nil (reads ++ []) ∙ append-nil reads)
      ∙ map-append name_of reads outputs ∙ ap₂ (λ (xs ys : List (List ℕ)). xs ++ ys) (reads_named m.covers (outputs_line m + 1)) (named (outputs_line m) m.outputs)

  driver_count : (name : List ℕ) → length (drivers_of_name own (model_on_lines m) name) ≡ length (filter (λ x. bytes_eq x name) (driven_names m))
  driver_count name = named_count (drivers_in own (model_on_lines m)) name ∙ ap (λ (xs : List (List ℕ)). length (filter (λ x. bytes_eq x name) xs)) drivers_named

  not_twice : (line : ℕ) (name : List ℕ) → is_driven_twice_on own (model_on_lines m) line name ≡ false
  not_twice line name =
      let ds = drivers_of_name own (model_on_lines m) name in
      let few : length ds ≤ 1 = (let e = driver_count name in let l = one_named name (driven_names m) once in omega (arith, e, l)) in
      let fewer : count_lines (λ l. not (nat_lt line l)) ds ≤ 1 = (let s = filter_shorter (λ (o : OnLine). not (nat_lt line o.line)) ds in omega (arith, s, few)) in
      ap (λ (t : Bool). (t && nat_lt (count_lines (λ l. nat_lt l line) ds) 2) && list_any (λ (o : OnLine). o.line == line) ds) (le-ltb 1 (count_lines (λ l. not (nat_lt line l)) ds) fewer)

  abbrev ds : List ℕ → List OnLine
  ds name = drivers_of_name own (model_on_lines m) name

  abbrev us : List ℕ → List OnLine
  us name = uses_of_name own (model_on_lines m) name

  driven : (line : ℕ) (name : List ℕ) → has_name (driven_names m) name ≡ true → is_undriven_on own (model_on_lines m) line name ≡ false
  driven line name there =
      let some : 0 < length (ds name) = (let e = driver_count name in let s = some_named name (driven_names m) there in omega (arith, e, s)) in
      ap (λ (t : Bool). (t && list_any (λ (o : OnLine). o.line == line) (us name)) && (count_lines (λ l. nat_lt l line) (us name) == 0)) (some_first (ds name) some)

  no_second : (b : Bool) → ((b && false) && true) ≡ false
  no_second true = refl
  no_second false = refl

  unused : (line : ℕ) (name : List ℕ) → has_name (driven_names m) name ≡ false → is_undriven_on own (model_on_lines m) line name ≡ false
  unused line name none =
      let apart : has_name (used_names m) name ≡ false = false_from_ne_true (has_name (used_names m) name) (λ t. false≢true (sym none ∙ drivers.each name t)) in
      let empty : us name ≡ [] = no_items (us name) (named_count (uses_in own (model_on_lines m)) name ∙ ap (λ (xs : List (List ℕ)). length (filter (λ x. bytes_eq x name) xs)) uses_named ∙ ap length (none_named name (used_names m) apart)) in
      ap (λ (xs : List OnLine). (is_none (slice_get (ds name) 0) && list_any (λ (o : OnLine). o.line == line) xs) && (count_lines (λ l. nat_lt l line) xs == 0)) empty
      ∙ no_second (is_none (slice_get (ds name) 0))

  not_undriven : (line : ℕ) (name : List ℕ) → is_undriven_on own (model_on_lines m) line name ≡ false
  not_undriven line name = elim (cases_Bool (has_name (driven_names m) name)) [ inl there ↦ driven line name there | inr none ↦ unused line name none ]

  no_fault_on : (line : ℕ) → fault_on own (model_on_lines m) line ≡ None
  no_fault_on line =
      ap₂ (λ (a b : Option (List ℕ)). option_or (option_map (λ (name : List ℕ). Twice line name) a) (option_map (λ (name : List ℕ). Never line name) b))
      (not_found (is_driven_twice_on own (model_on_lines m) line) (names_on (model_on_lines m) line) (not_twice line))
      (not_found (is_undriven_on own (model_on_lines m) line) (names_on (model_on_lines m) line) (not_undriven line))

  same_arms : (b : Bool) → (let none : Option DriverFault = None in cond b none none ≡ none)
  same_arms true = refl
  same_arms false = refl

  own_none : own_fault own (model_on_lines m) ≡ None
  own_none =
      ap (λ (xs : List DriverFault). slice_get xs 0)
      (filter_map_none (λ line. cond (is_least_bad own (model_on_lines m) line) (fault_on own (model_on_lines m) line) None) (lines_of (model_on_lines m) own)
      (λ line. ap (λ (o : Option DriverFault). cond (is_least_bad own (model_on_lines m) line) o None) (no_fault_on line) ∙ same_arms (is_least_bad own (model_on_lines m) line)))

-- ---- its network, in which nothing is driven but the inputs and clocks

abbrev bare : PlainModel → PlainModel
bare m = record m { outputs = []; covers = [] }

bare_drivers : (m : PlainModel) → HasDrivers m → HasDrivers (bare m)
bare_drivers m drivers = record {
  apart =
      subst (AllApart bytes_eq) (sym (append-nil (m.inputs ++ m.clocks)))
      (λ i j x y a b e. drivers.apart i j x y (at_front (m.inputs ++ m.clocks) outs i x a) (at_front (m.inputs ++ m.clocks) outs j y b) e);
  each = λ name t. cc;
} where
  outs : List (List ℕ)
  outs = map (λ (c : PlainCover). c.output) m.covers

network_none : (m : PlainModel) → HasDrivers m → own_fault (alone m) (network_of (model_on_lines m)) ≡ None
network_none m drivers = own_none (bare m) (bare_drivers m drivers)

-- ---- the model with it

module _ (m : PlainModel) (drivers : HasDrivers m) where
  abbrev blif : Blif
  blif = alone m

  no_driver_fault : driver_fault blif ≡ None
  no_driver_fault = ap₂ (λ (a b : Option DriverFault). slice_get (cons_option (earlier_fault a b) []) 0) (own_none m drivers) (network_none m drivers)

  -- ---- nothing stands in it

  no_children : (n : ℕ) → models_within blif n ≡ []
  no_children zero = refl
  no_children (suc n) = refl

  none_within : (n k : ℕ) → IsWithin (models_within blif) n k → ⊥
  none_within n k (directly a) = none-some n (subst (λ (xs : List ℕ). slice_get xs a.0 ≡ Some n) (no_children k) a.1)
  none_within n k (further {l} a w) = none-some l (subst (λ (xs : List ℕ). slice_get xs a.0 ≡ Some l) (no_children k) a.1)

  depth_is : (n : ℕ) → depth_in (models_within blif) 1 n ≡ 1
  depth_is n = ap (λ (xs : List ℕ). suc (greatest (map (depth_in (models_within blif) 0) xs))) (no_children n)

  good : AreModels blif
  good = record {
    subs = refl;
    well_founded = λ n lt w. none_within n n w;
    shallow = λ n lt. (let e = depth_is n in omega (arith, e));
    drivers = no_driver_fault;
  }

pub driven_models_are_good : (m : PlainModel) → HasDrivers m → AreModels (alone m)
driven_models_are_good m drivers = good m drivers
