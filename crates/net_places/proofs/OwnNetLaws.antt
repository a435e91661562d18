-- The nets of an unrolled cell behind its ports are those of its flat circuit.
use Rattle.std.proofs.Common.{◌≡◌, ◌<◌, ◌+◌, ◌++◌, ◌∷◌, ◌&&◌, ◌==◌, [], ℕ, suc, not, cond, Bool, true, false, List, drop, map, flat_map, Option, Some, None, refl, ap, ap₂, sym, ◌∙◌, arith, append-nil, append_assoc}
use Rattle.std.specs.Prelude.{bytes_eq, filter, is_some, slice_get, unwrap_or}
use Rattle.std.proofs.lemmas.Bool.Decides.{nat_tests}
use Rattle.std.proofs.lemmas.Option.{slice_get_within}
use Rattle.names.proofs.FilterLaws.{has_name_filter}
use Rattle.names.proofs.PlaceLaws.{any_placed, at_among}
use Rattle.net_places.proofs.CellLaws.{nets_are}
use Rattle.net_places.specs.Links.{AreGlobalNets, AreNoOthers, Bare, IsUnrolled, bare, shown}
use Rattle.net_places.specs.OwnNets.{given_names, is_given, own_by}
use Rattle.net_places.specs.Places.{nets_at}
use Rattle.net_places.specs.declared.places.Place.{Place}
use Rattle.net_places.specs.declared.whole.Unrolled.{Unrolled}
use Rattle.net_tables.specs.Places.{global_place}
use Rattle.net_tables.specs.Tables.{AreNetTables}
use Rattle.net_tables.specs.declared.tables.NetTables.{NetTables}
use Rattle.net_tables.specs.declared.types.CellNets.{CellNets}
use Rattle.vrt_model.specs.FlatCircuit.{own_flat_nets, plain_net}
use Rattle.vrt_model.specs.Lists.{At, has_name, path_name, place_of}
use Rattle.vrt_model.specs.Unrolled.{Place as FlatPlace, Top, all_places, deepest, first_global, global_nets, globals_of, names_global, top_cell}
use Rattle.vrt_model.specs.declared.circuit.FlatNet.{FlatNet}
use Rattle.vrt_model.specs.declared.ids.Net.{Net}

-- ---- own nets

module _ (t : Top) (tables : NetTables) (are : AreNetTables t.design t.rules tables) where
  abbrev by_bare : Bare → List FlatNet
  by_bare b = map (λ (name : List ℕ). plain_net (path_name b.path name)) (nets_at tables b.cell).names.own

  shown_own : (places : List Place) → flat_map (own_by tables) places ≡ flat_map by_bare (map shown places)
  shown_own [] = refl
  shown_own (p ∷ places) = ap (λ (nets : List FlatNet). own_by tables p ++ nets) (shown_own places)

  bare_own : (flat : List FlatPlace) → flat_map by_bare (map bare flat) ≡ flat_map (own_flat_nets t) flat
  bare_own [] = refl
  bare_own (at ∷ flat) =
      ap₂ (λ (a b : List FlatNet). a ++ b) (ap (λ (nets : CellNets). map (λ (name : List ℕ). plain_net (path_name (bare at).path name)) nets.names.own) (nets_are t.design t.rules tables are at.cell)) (bare_own flat)

  pub own_are : (unrolled : Unrolled) → IsUnrolled t unrolled → flat_map (own_by tables) unrolled.places ≡ flat_map (own_flat_nets t) (all_places t)
  own_are unrolled is = shown_own unrolled.places ∙ ap (flat_map by_bare) is.places_are ∙ bare_own (all_places t)

-- ---- global nets

module _ (test : List ℕ → Bool) where
  abbrev Says : List (List ℕ) → List Net → Type 0
  Says xs nets = (j : ℕ) (name : List ℕ) → At xs j name → is_given (slice_get nets j) ≡ test name

  behind : (nets : List Net) (j : ℕ) → slice_get (drop 1 nets) j ≡ slice_get nets (suc j)
  behind [] j = refl
  behind (n ∷ nets) j = refl

  given_are : (xs : List (List ℕ)) (nets : List Net) → Says xs nets → given_names xs nets ≡ filter test xs
  given_are [] nets says = refl
  given_are (x ∷ xs) nets says =
      ap₂ (λ (b : Bool) (names : List (List ℕ)). cond b (x ∷ names) names) (says 0 x refl)
      (given_are xs (drop 1 nets) (λ j name here. ap is_given (behind nets j) ∙ says (suc j) name here))

module _ (t : Top) (globals : List Net) (there : AreGlobalNets t globals) (others : AreNoOthers t globals) where
  abbrev test : List ℕ → Bool
  test name = names_global t.design t.rules deepest (top_cell t) name

  large : (n : ℕ) → 0 < n → not (n == 0) ≡ true
  large n more = grind (arith, nat_tests, more)

  only : (a b : Bool) → b ≡ true → a ≡ (a && b)
  only true b e = sym e
  only false b e = refl

  pub says : Says test t.design.globals globals
  unfolding global_nets
  says j name here = by_place (place_of (globals_of t) name) refl where
    tested : test name ≡ is_some (place_of (globals_of t) name)
    tested =
        only (test name) (has_name t.design.globals name) (at_among t.design.globals j name here) ∙ sym (has_name_filter test t.design.globals name)
        ∙ any_placed (bytes_eq name) (filter test t.design.globals)

    by_place : (o : Option ℕ) → place_of (globals_of t) name ≡ o → is_given (slice_get globals j) ≡ test name
    by_place None e = ap is_given (others j name here e) ∙ sym (tested ∙ ap is_some e)
    by_place (Some k) e =
        let named : global_place t j ≡ Some k = ap (λ (o : Option (List ℕ)). place_of (globals_of t) (unwrap_or o [])) here ∙ e in
        ap is_given (there j k (slice_get_within t.design.globals j name here) named) ∙ large (first_global t + k) (omega arith) ∙ sym (tested ∙ ap is_some e)

  pub globals_are : given_names t.design.globals globals ≡ globals_of t
  unfolding global_nets
  globals_are = given_are test t.design.globals globals says

-- ---- all

pub inner_are : (t : Top) (tables : NetTables) (unrolled : Unrolled) (names : List (List ℕ)) (globals : List Net) (places : List Place) (old mid new : List FlatNet)
    → t.design.globals ≡ names → unrolled.globals ≡ globals → unrolled.places ≡ places → AreNetTables t.design t.rules tables → IsUnrolled t unrolled
    → mid ≡ old ++ map plain_net (given_names names globals) → new ≡ mid ++ flat_map (own_by tables) places
    → new ≡ old ++ (map plain_net (globals_of t) ++ flat_map (own_flat_nets t) (all_places t))
inner_are t tables unrolled names globals places old mid new n g p are is first second =
    second
    ∙ ap₂ (λ (ms os : List FlatNet). ms ++ os) (first ∙ ap₂ (λ (xs : List (List ℕ)) (ns : List Net). old ++ map plain_net (given_names xs ns)) (sym n) (sym g))
    (ap (flat_map (own_by tables)) (sym p) ∙ own_are t tables are unrolled is)
    ∙ ap (λ (xs : List (List ℕ)). (old ++ map plain_net xs) ++ flat_map (own_flat_nets t) (all_places t)) (globals_are t unrolled.globals is.globals_are is.others_are)
    ∙ append_assoc old (map plain_net (globals_of t)) (flat_map (own_flat_nets t) (all_places t))

-- the names that are left
pub left_more : (old nets new : List FlatNet) (left behind : List (List ℕ)) (name : List ℕ) (b : Bool) (bytes : List ℕ) (all : List (List ℕ)) (globals_left globals_behind : List Net)
    → left ≡ name ∷ behind → bytes ≡ name → globals_behind ≡ drop 1 globals_left → b ≡ is_given (slice_get globals_left 0) → new ≡ nets ++ cond b (plain_net bytes ∷ []) []
    → nets ++ map plain_net (given_names left globals_left) ≡ old ++ map plain_net all → new ++ map plain_net (given_names behind globals_behind) ≡ old ++ map plain_net all
left_more old nets new left behind name b bytes all globals_left globals_behind e same g given more before =
    ap₂ (λ (ns : List FlatNet) (gs : List Net). ns ++ map plain_net (given_names behind gs)) more g
    ∙ ap₂ (λ (bit : Bool) (x : List ℕ). (nets ++ cond bit (plain_net x ∷ []) []) ++ map plain_net (given_names behind (drop 1 globals_left))) given same
    ∙ by_test (is_given (slice_get globals_left 0)) ∙ ap (λ (xs : List (List ℕ)). nets ++ map plain_net (given_names xs globals_left)) (sym e) ∙ before where
      by_test : (bit : Bool) → (nets ++ cond bit (plain_net name ∷ []) []) ++ map plain_net (given_names behind (drop 1 globals_left))
          ≡ nets ++ map plain_net (cond bit (name ∷ given_names behind (drop 1 globals_left)) (given_names behind (drop 1 globals_left)))
      by_test true = append_assoc nets (plain_net name ∷ []) (map plain_net (given_names behind (drop 1 globals_left)))
      by_test false = ap (λ (ns : List FlatNet). ns ++ map plain_net (given_names behind (drop 1 globals_left))) (append-nil nets)

pub left_all : (old nets : List FlatNet) (left : List (List ℕ)) (all : List (List ℕ)) (globals_left : List Net) → left ≡ [] → nets ++ map plain_net (given_names left globals_left) ≡ old ++ map plain_net all
    → nets ≡ old ++ map plain_net all
left_all old nets left all globals_left e before = sym (append-nil nets) ∙ ap (λ (xs : List (List ℕ)). nets ++ map plain_net (given_names xs globals_left)) (sym e) ∙ before
