-- The signals of an interface stand first, each once, so their numbers do not depend on what else a model has.
use Rattle.std.proofs.Common.{◌≡◌, ℕ, zero, suc, ◌+◌, ◌<◌, ◌&&◌, ◌||◌, Bool, true, false, not, cond, List, [], ◌∷◌, ◌++◌, Option, Some, length, map, append_assoc, arith, ap, ap₂, refl, sym, subst, ◌∙◌, inl, inr}
use Rattle.std.specs.Prelude.{bytes_eq, codes, filter, flat_map, option_map, slice_get, unwrap_or}
use Rattle.std.proofs.lemmas.Bool.{false≢true, or_left, or_right}
use Rattle.std.proofs.lemmas.List.Folds.{list_any-append}
use Rattle.names.proofs.FilterLaws.{filter_new}
use Rattle.names.proofs.NameLaws.{distinct_more, once_has_same, with_names_are}
use Rattle.names.specs.Names.{with_names}
use Rattle.names.proofs.PlaceLaws.{any_placed, at_among, place_cons, placed_within}
use Rattle.plain_models.proofs.FlatLaws.{driven_models_are_flat}
use Rattle.plain_models.specs.Flat.{HasDrivers, flat_form, number_in, signal_names}
use Rattle.plain_models.specs.Interfaces.{IsInterfaceOf, SameInterface}
use Rattle.plain_models.specs.Texts.{PlainCover, PlainModel, alone}
use Rattle.vrt_model.proofs.Lists.{at_map, filter_among_same, filter_twice, map_same}
use Rattle.vrt_model.proofs.Members.{among_either, among_filter}
use Rattle.vrt_model.proofs.Tests.{some_of}
use Rattle.vrt_model.specs.Elements.{signal_name}
use Rattle.vrt_model.specs.FlatBlif.{ModelPlace, all_models, cover_signals, flat_model_of, flat_signals_at, inner_signals, latch_signals, model_at, models_in, network_names, signal_at, signals_of, sub_signals, subs_at, top_model, unrolled_of}
use Rattle.vrt_model.specs.Lists.{Among, distinct, has_name, has_number, path_name, place_of}
use Rattle.vrt_model.specs.PairedPorts.{interface}
use Rattle.vrt_model.specs.Unrolled.{deepest}
use Rattle.vrt_model.specs.declared.blif.Blif.{Blif}
use Rattle.vrt_model.specs.declared.blif.BlifModel.{BlifModel}

-- ---- places in joined lists

place_front : (xs ys : List (List ℕ)) (name : List ℕ) → has_name xs name ≡ true → place_of (xs ++ ys) name ≡ place_of xs name
place_front [] ys name t = absurd (false≢true t)
place_front (x ∷ xs) ys name t =
    place_cons (bytes_eq name) x (xs ++ ys) ∙ by_first (bytes_eq name x) t (place_front xs ys name) ∙ sym (place_cons (bytes_eq name) x xs)
  where
    by_first : (b : Bool) → (b || has_name xs name) ≡ true → (has_name xs name ≡ true → place_of (xs ++ ys) name ≡ place_of xs name)
        → cond b (Some 0) (option_map suc (place_of (xs ++ ys) name)) ≡ cond b (Some 0) (option_map suc (place_of xs name))
    by_first true e later = refl
    by_first false e later = ap (option_map suc) (later e)

place_there : (xs : List (List ℕ)) (name : List ℕ) → has_name xs name ≡ true → unwrap_or (place_of xs name) 0 < length xs
place_there xs name t =
    let found = some_of (place_of xs name) (sym (any_placed (bytes_eq name) xs) ∙ t) in
    subst (λ (o : Option ℕ). unwrap_or o 0 < length xs) (sym found.1) (placed_within (bytes_eq name) xs found.0 found.1)

at_both : {X : Type 0} (xs ys : List X) (i : ℕ) → i < length xs → slice_get (xs ++ ys) i ≡ slice_get xs i
at_both [] ys i lt = absurd (omega (arith, lt))
at_both (x ∷ xs) ys zero lt = refl
at_both (x ∷ xs) ys (suc i) lt = at_both xs ys i (omega (arith, lt))

-- ---- the signals of a model

-- names with more are these and what is new
more_names : (xs ys : List (List ℕ)) → (more : List (List ℕ)) × (distinct (xs ++ ys) ≡ distinct xs ++ more)
more_names xs ys = (distinct (filter (λ y. not (has_name (distinct xs) y)) ys), distinct_more xs ys ∙ with_names_are (distinct xs) ys)

-- clocks that are inputs add nothing
same_given : (inputs clocks : List (List ℕ)) → distinct (inputs ++ clocks) ≡ distinct (inputs ++ filter (λ name. not (has_name inputs name)) clocks)
same_given inputs clocks =
    let new : List ℕ → Bool = λ y. not (has_name (distinct inputs) y) in
    let other : List ℕ → Bool = λ name. not (has_name inputs name) in
    let same : (y : List ℕ) → (other y && new y) ≡ new y = λ y. ap (λ (b : Bool). not b && new y) (sym (once_has_same inputs y)) ∙ twice (new y) in
    let kept : filter new clocks ≡ filter new (filter other clocks) = sym (filter_twice new other clocks ∙ filter_among_same (λ y. other y && new y) new clocks (λ y m. same y)) in
    distinct_more inputs clocks ∙ with_names_are (distinct inputs) clocks
    ∙ ap (λ (xs : List (List ℕ)). distinct inputs ++ distinct xs) kept
    ∙ sym (distinct_more inputs (filter other clocks) ∙ with_names_are (distinct inputs) (filter other clocks))
  where
    twice : (b : Bool) → (b && b) ≡ b
    twice true = refl
    twice false = refl

same_more : (xs ys zs : List (List ℕ)) → distinct xs ≡ distinct ys → distinct (xs ++ zs) ≡ distinct (ys ++ zs)
same_more xs ys zs e = distinct_more xs zs ∙ ap (λ (ns : List (List ℕ)). with_names ns zs) e ∙ sym (distinct_more ys zs)

-- the first place of an unrolled model is that of the model itself
first_place : (blif : Blif) (depth : ℕ) (at : ModelPlace) → (more : List ModelPlace) × (models_in blif depth at ≡ at ∷ more)
first_place blif zero at = ([], refl)
first_place blif (suc depth) at = (flat_map (models_in blif depth) (subs_at blif depth at), refl)

all_first : (blif : Blif) (n : ℕ) → (more : List ModelPlace) × (all_models blif n ≡ top_model n ∷ more)
unfolding all_models
all_first blif n = first_place blif deepest (top_model n)

paths_same : (xs : List (List ℕ)) → map (path_name []) xs ≡ xs
paths_same [] = refl
paths_same (x ∷ xs) = ap (λ (ys : List (List ℕ)). x ∷ ys) (paths_same xs)

zero_more : (n : ℕ) → 0 + n ≡ n
zero_more n = omega arith

module _ (blif : Blif) (n : ℕ) (m : PlainModel) (drivers : HasDrivers m) (is : IsInterfaceOf (model_at blif n) m) where
  abbrev b : BlifModel
  b = model_at blif n

  -- the signals of the interface, each once
  abbrev first : List (List ℕ)
  first = distinct ((m.inputs ++ m.clocks) ++ m.outputs)

  own_first : (more : List (List ℕ)) × (signals_of b ≡ first ++ more)
  unfolding signals_of
  own_first =
      let covers = flat_map cover_signals b.covers in
      let latches = flat_map latch_signals b.latches in
      let subs = flat_map sub_signals b.subs in
      let own = (b.inputs ++ b.clocks) ++ b.outputs in
      let rest = more_names own (covers ++ (latches ++ subs)) in
      let same : distinct own ≡ first =
      same_more (b.inputs ++ b.clocks) (b.inputs ++ filter (λ name. not (has_name b.inputs name)) b.clocks) b.outputs (same_given b.inputs b.clocks)
      ∙ ap₂ (λ (xs ys : List (List ℕ)). distinct (xs ++ ys)) (ap₂ (λ (xs ys : List (List ℕ)). xs ++ ys) is.inputs is.clocks) is.outputs in (
        rest.0,
        ap distinct (append_assoc (own ++ covers) latches subs ∙ append_assoc own covers (latches ++ subs)) ∙ rest.1
            ∙ ap (λ (xs : List (List ℕ)). xs ++ rest.0) same,
      )

  flat_first : (more : List (List ℕ)) × ((flat_model_of blif n).signals ≡ first ++ more)
  unfolding flat_model_of unrolled_of
  flat_first =
      let all = all_first blif n in
      let rest = flat_map (flat_signals_at blif) all.0 in
      let network = map (λ (name : List ℕ). name ++ codes "#dc") (network_names (model_at blif n)) in (
        (own_first.0 ++ rest) ++ network,
        ap (λ (xs : List (List ℕ)). xs ++ network)
            (ap (flat_map (flat_signals_at blif)) all.1
            ∙ ap (λ (xs : List (List ℕ)). xs ++ rest) (paths_same (inner_signals b []) ∙ filter_new (signals_of b) ∙ own_first.1)
            ∙ append_assoc first own_first.0 rest)
            ∙ append_assoc first (own_first.0 ++ rest) network,
      )

  number_first : (name : List ℕ) → has_name first name ≡ true → signal_at blif (top_model n) name ≡ unwrap_or (place_of first name) 0
  number_first name t =
      zero_more (unwrap_or (place_of (inner_signals b []) name) 0)
      ∙ ap (λ (xs : List (List ℕ)). unwrap_or (place_of xs name) 0) (filter_new (signals_of b) ∙ own_first.1)
      ∙ ap (λ (o : Option ℕ). unwrap_or o 0) (place_front first own_first.0 name t)

  -- ---- the model of covers alone

  plain_first : (more : List (List ℕ)) × (signal_names m ≡ first ++ more)
  plain_first = more_names ((m.inputs ++ m.clocks) ++ m.outputs) (flat_map (λ (c : PlainCover). c.inputs ++ c.output ∷ []) m.covers)

  plain_number : (name : List ℕ) → has_name first name ≡ true → number_in m name ≡ unwrap_or (place_of first name) 0
  plain_number name t =
      ap (λ (xs : List (List ℕ)). unwrap_or (place_of xs name) 0) plain_first.1 ∙ ap (λ (o : Option ℕ). unwrap_or o 0) (place_front first plain_first.0 name t)

  same_number : (name : List ℕ) → has_name first name ≡ true → signal_at blif (top_model n) name ≡ number_in m name
  same_number name t = number_first name t ∙ sym (plain_number name t)

  -- ---- the interface

  input_there : (name : List ℕ) → has_name m.inputs name ≡ true → has_name first name ≡ true
  input_there name t =
      once_has_same ((m.inputs ++ m.clocks) ++ m.outputs) name
      ∙ list_any-append (bytes_eq name) (m.inputs ++ m.clocks) m.outputs
      ∙ or_left (has_name (m.inputs ++ m.clocks) name) (has_name m.outputs name) (list_any-append (bytes_eq name) m.inputs m.clocks ∙ or_left (has_name m.inputs name) (has_name m.clocks name) t)

  clock_there : (name : List ℕ) → has_name m.clocks name ≡ true → has_name first name ≡ true
  clock_there name t =
      once_has_same ((m.inputs ++ m.clocks) ++ m.outputs) name
      ∙ list_any-append (bytes_eq name) (m.inputs ++ m.clocks) m.outputs
      ∙ or_left (has_name (m.inputs ++ m.clocks) name) (has_name m.outputs name) (list_any-append (bytes_eq name) m.inputs m.clocks ∙ or_right (has_name m.inputs name) (has_name m.clocks name) t)

  output_there : (name : List ℕ) → has_name m.outputs name ≡ true → has_name first name ≡ true
  output_there name t =
      once_has_same ((m.inputs ++ m.clocks) ++ m.outputs) name
      ∙ list_any-append (bytes_eq name) (m.inputs ++ m.clocks) m.outputs ∙ or_right (has_name (m.inputs ++ m.clocks) name) (has_name m.outputs name) t

  numbers_same : (xs : List (List ℕ)) → ((name : List ℕ) → has_name xs name ≡ true → has_name first name ≡ true) → map (signal_at blif (top_model n)) xs ≡ map (number_in m) xs
  numbers_same xs there = map_same (signal_at blif (top_model n)) (number_in m) xs (λ i name e. same_number name (there name (at_among xs i name e)))

  inputs_kept : (flat_model_of blif n).inputs ≡ (flat_form m).inputs
  unfolding flat_model_of unrolled_of
  inputs_kept = ap (map (signal_at blif (top_model n))) is.inputs ∙ numbers_same m.inputs input_there

  clocks_kept : (flat_model_of blif n).clocks ≡ (flat_form m).clocks
  unfolding flat_model_of unrolled_of
  clocks_kept = ap (map (signal_at blif (top_model n))) is.clocks ∙ numbers_same m.clocks clock_there

  outputs_kept : (flat_model_of blif n).outputs ≡ (flat_form m).outputs
  unfolding flat_model_of unrolled_of
  outputs_kept = ap (map (signal_at blif (top_model n))) is.outputs ∙ numbers_same m.outputs output_there

  -- each signal of the interface has its number among the first
  below_first : (xs : List (List ℕ)) → ((name : List ℕ) → has_name xs name ≡ true → has_name first name ≡ true) → (s : ℕ) → Among (map (number_in m) xs) s → s < length first
  below_first xs there s (i, e) =
      let found = at_map (number_in m) xs i s e in
      let t = there found.0 (at_among xs i found.0 found.1) in
      subst (λ (k : ℕ). k < length first) (sym (plain_number found.0 t) ∙ found.2) (place_there first found.0 t)

  below : (s : ℕ) → Among (interface (flat_form m)) s → s < length first
  below s there =
      let flat = flat_form m in
      elim (among_either (flat.inputs ++ flat.clocks) (filter (λ k. not (has_number (flat.inputs ++ flat.clocks) k)) flat.outputs) s there) [
        | inl given ↦ elim (among_either flat.inputs flat.clocks s given) [ inl a ↦ below_first m.inputs input_there s a | inr c ↦ below_first m.clocks clock_there s c ]
        | inr out ↦ below_first m.outputs output_there s (among_filter (λ k. not (has_number (flat.inputs ++ flat.clocks) k)) flat.outputs s out)
      ]

  name_kept : (s : ℕ) → s < length first → signal_name (flat_model_of blif n) s ≡ signal_name (flat_form m) s
  name_kept s lt =
      ap (λ (xs : List (List ℕ)). unwrap_or (slice_get xs s) []) flat_first.1
      ∙ ap (λ (o : Option (List ℕ)). unwrap_or o []) (at_both first flat_first.0 s lt ∙ sym (at_both first plain_first.0 s lt))
      ∙ ap (λ (xs : List (List ℕ)). unwrap_or (slice_get xs s) []) (sym plain_first.1)

  interface_kept : interface (flat_model_of blif n) ≡ interface (flat_form m)
  interface_kept =
      let given = ap₂ (λ (xs ys : List ℕ). xs ++ ys) inputs_kept clocks_kept in
      ap₂ (λ (xs ys : List ℕ). xs ++ filter (λ s. not (has_number xs s)) ys) given outputs_kept

  kept : SameInterface (flat_model_of blif n) (flat_form m)
  kept = record {
    inputs = inputs_kept;
    clocks = clocks_kept;
    outputs = outputs_kept;
    names = λ s there. name_kept s (below s (subst (λ (xs : List ℕ). Among xs s) interface_kept there));
  }

pub interfaces_are_kept : (blif : Blif) (n : ℕ) (m : PlainModel) → HasDrivers m → IsInterfaceOf (model_at blif n) m → SameInterface (flat_model_of blif n) (flat_model_of (alone m) 0)
interfaces_are_kept blif n m drivers is = subst (SameInterface (flat_model_of blif n)) (sym (driven_models_are_flat m drivers)) (kept blif n m drivers is)
