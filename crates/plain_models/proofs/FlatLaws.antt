-- The flat form of a model that stands alone.
use Rattle.std.proofs.Common.{◌≡◌, ℕ, ◌+◌, Bool, false, not, cond, List, [], ◌∷◌, ◌++◌, length, map, append-nil, arith, ap, ap₂, refl, ◌∙◌}
use Rattle.std.specs.Prelude.{filter, flat_map, unwrap_or}
use Rattle.std.proofs.Math.Path.{fun_ext}
use Rattle.names.proofs.FilterLaws.{filter_new}
use Rattle.plain_models.proofs.CardKinds.{Each}
use Rattle.plain_models.proofs.DriverLaws.{clocks_apart}
use Rattle.plain_models.specs.Flat.{HasDrivers, flat_form, number_in, numbered_cover, signal_names}
use Rattle.plain_models.specs.Texts.{PlainCover, PlainModel, alone, covers_from, model_on_lines, outputs_line}
use Rattle.vrt_model.proofs.Networkless.{no_network}
use Rattle.vrt_model.specs.FlatBlif.{all_models, cover_signals, flat_cover, flat_model_of, inner_signals, network_names, signal_at, signals_of, top_model, unrolled_of}
use Rattle.vrt_model.specs.Lists.{distinct, has_name, path_name, place_of}
use Rattle.vrt_model.specs.declared.blif.CoverLine.{CoverLine}
use Rattle.vrt_model.specs.declared.flat_model.Cover.{Cover}

map_same_names : (xs : List (List ℕ)) → map (path_name []) xs ≡ xs
map_same_names [] = refl
map_same_names (x ∷ xs) = ap (λ (ys : List (List ℕ)). x ∷ ys) (map_same_names xs)

mentions : (covers : List PlainCover) (line : ℕ) → flat_map cover_signals (covers_from line covers) ≡ flat_map (λ (c : PlainCover). c.inputs ++ c.output ∷ []) covers
mentions [] line = refl
mentions (cover ∷ covers) line = ap (λ (xs : List (List ℕ)). (cover.inputs ++ cover.output ∷ []) ++ xs) (mentions covers (line + 1 + length cover.rows))

pub kept_all : (inputs clocks : List (List ℕ)) → Each (λ x. has_name inputs x ≡ false) clocks → filter (λ name. not (has_name inputs name)) clocks ≡ clocks
kept_all inputs [] e = refl
kept_all inputs (x ∷ xs) e =
    ap (λ (t : Bool). cond (not t) (x ∷ filter (λ name. not (has_name inputs name)) xs) (filter (λ name. not (has_name inputs name)) xs)) e.0
    ∙ ap (λ (ys : List (List ℕ)). x ∷ ys) (kept_all inputs xs e.1)

covers_numbered : (number : List ℕ → ℕ) (covers : List PlainCover) (line : ℕ)
    → map (λ (c : CoverLine). let cover : Cover = record { inputs = map number c.inputs; output = number c.output; on = c.on; rows = c.rows } in cover) (covers_from line covers) ≡ map (numbered_cover number) covers
covers_numbered number [] line = refl
covers_numbered number (cover ∷ covers) line = ap (λ (cs : List Cover). numbered_cover number cover ∷ cs) (covers_numbered number covers (line + 1 + length cover.rows))

module _ (m : PlainModel) (drivers : HasDrivers m) where
  signals_are : signals_of (model_on_lines m) ≡ signal_names m
  unfolding signals_of
  signals_are =
      let mentioned = flat_map cover_signals (covers_from (outputs_line m + 1) m.covers) in
      let interface = (m.inputs ++ m.clocks) ++ m.outputs in
      ap distinct (append-nil ((interface ++ mentioned) ++ []) ∙ append-nil (interface ++ mentioned))
      ∙ ap (λ (xs : List (List ℕ)). distinct (interface ++ xs)) (mentions m.covers (outputs_line m + 1))

  inner_are : inner_signals (model_on_lines m) [] ≡ signal_names m
  inner_are = filter_new (signals_of (model_on_lines m)) ∙ signals_are

  number_is : signal_at (alone m) (top_model 0) ≡ number_in m
  number_is = fun_ext (λ name. plus_none (unwrap_or (place_of (inner_signals (model_on_lines m) []) name) 0) ∙ ap (λ (xs : List (List ℕ)). unwrap_or (place_of xs name) 0) inner_are)
    where
      plus_none : (n : ℕ) → 0 + n ≡ n
      plus_none n = omega arith

  flat_is : flat_model_of (alone m) 0 ≡ flat_form m
  unfolding flat_model_of unrolled_of network_names all_models
  flat_is =
      let signals = append-nil (map (path_name []) (inner_signals (model_on_lines m) []) ++ []) ∙ append-nil (map (path_name []) (inner_signals (model_on_lines m) [])) ∙ map_same_names (inner_signals (model_on_lines m) []) ∙ inner_are in
      let inputs = ap (λ (f : List ℕ → ℕ). map f m.inputs) number_is in
      let clocks = ap₂ (λ (f : List ℕ → ℕ) (xs : List (List ℕ)). map f xs) number_is (kept_all m.inputs m.clocks (clocks_apart m drivers)) in
      let outputs = ap (λ (f : List ℕ → ℕ). map f m.outputs) number_is in
      let covers = append-nil (map (flat_cover (alone m) (top_model 0)) (covers_from (outputs_line m + 1) m.covers) ++ [])
      ∙ append-nil (map (flat_cover (alone m) (top_model 0)) (covers_from (outputs_line m + 1) m.covers))
      ∙ covers_numbered (signal_at (alone m) (top_model 0)) m.covers (outputs_line m + 1)
      ∙ ap (λ (f : List ℕ → ℕ). map (numbered_cover f) m.covers) number_is in
      let dontcares = no_network (alone m) 0 refl in
      λ i. record { signals = signals i; inputs = inputs i; clocks = clocks i; outputs = outputs i; covers = covers i; latches = []; dontcares = dontcares i }

pub driven_models_are_flat : (m : PlainModel) → HasDrivers m → flat_model_of (alone m) 0 ≡ flat_form m
driven_models_are_flat m drivers = flat_is m drivers
