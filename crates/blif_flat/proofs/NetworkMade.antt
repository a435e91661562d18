-- The network of a model behind what is unrolled of it, as the code makes it and by the definition.
use Rattle.std.proofs.Common.{◌≡◌, ◌+◌, ◌++◌, ◌∷◌, [], ℕ, List, filter, map, flat_map, length, take, Option, None, Some, ap, ap₂, sym, ◌∙◌}
use Rattle.std.specs.Prelude.{filter_map, slice_get, sum_by, unwrap_or}
use Rattle.std.proofs.lemmas.List.{length-append, length-map}
use Rattle.std.proofs.lemmas.List.Elements.{filter_agree, filter_map-append}
use Rattle.std.proofs.lemmas.List.Sums.{sum_by-append}
use Rattle.vrt_model.proofs.Lists.{take_one}
use Rattle.vrt_model.proofs.Networkless.{no_names, own_alone}
use Rattle.vrt_model.proofs.Sums.{carried_both, carried_once}
use Rattle.vrt_model.specs.FlatBlif.{cover_signals, flat_model_of, model_at, network_names, signal_at, top_model, unrolled_of}
use Rattle.vrt_model.specs.Lists.{distinct, has_name}
use Rattle.vrt_model.specs.Unsupported.{carried}
use Rattle.vrt_model.specs.declared.blif.Blif.{Blif}
use Rattle.vrt_model.specs.declared.blif.BlifModel.{BlifModel}
use Rattle.vrt_model.specs.declared.blif.CoverLine.{CoverLine}
use Rattle.vrt_model.specs.declared.flat_model.Cover.{Cover}
use Rattle.vrt_model.specs.declared.flat_model.FlatModel.{FlatModel}
use Rattle.names.specs.Names.{with_names}
use Rattle.names.proofs.ApartLaws.{all_named, kept_apart, once_apart}
use Rattle.names.proofs.NameLaws.{names_once, once_has_same}
use Rattle.blif_flat.specs.Counts.{AreCounts, AreFlatCounts, counts_with}
use Rattle.blif_flat.specs.Network.{cover_behind, dc_name, rows_of, with_network}
use Rattle.blif_flat.specs.Places.{IsPlace, number_in, place_in}
use Rattle.blif_flat.specs.declared.counts.Counts.{Counts}
use Rattle.blif_flat.specs.declared.places.Place.{Place}
use Rattle.blif_flat.proofs.CountLaws.{sum_map}
use Rattle.blif_flat.proofs.PlaceLaws.{signal_is}

-- ---- as the code makes it

-- what is kept of a list, and of one item more
pub kept_more : {X Y : Type 0} (f : X → Option Y) (xs : List X) (i : ℕ) (x : X) (old new : List Y) → slice_get xs i ≡ Some x → old ≡ filter_map f (take i xs) → new ≡ old ++ filter_map f (x ∷ []) → new ≡ filter_map f (take (i + 1) xs)
kept_more f xs i x old new here e n =
    n ∙ ap (λ ys. ys ++ filter_map f (x ∷ [])) e ∙ sym (filter_map-append f (take i xs) (x ∷ [])) ∙ ap (filter_map f) (sym (take_one xs i x here))

-- the names that a network drives
pub driven_are : (m : BlifModel) (covers : List CoverLine) (outputs all list items : List (List ℕ)) → covers ≡ m.exdc → outputs ≡ with_names [] (map (λ (c : CoverLine). c.output) covers)
    → all ≡ with_names [] (flat_map cover_signals covers) → list ≡ all → items ≡ list → with_names [] (filter (has_name outputs) items) ≡ network_names m
unfolding network_names
driven_are m covers outputs all list items c o a l i =
    ap (λ (xs : List (List ℕ)). with_names [] (filter (has_name outputs) xs)) (i ∙ l ∙ a ∙ names_once (flat_map cover_signals covers))
    ∙ all_named (filter (has_name outputs) (distinct (flat_map cover_signals covers))) (kept_apart (has_name outputs) (distinct (flat_map cover_signals covers)) (once_apart (flat_map cover_signals covers)))
    ∙ filter_agree (has_name outputs) (has_name (map (λ (c : CoverLine). c.output) covers))
    (λ name. ap (λ (ns : List (List ℕ)). has_name ns name) (o ∙ names_once (map (λ (c : CoverLine). c.output) covers)) ∙ once_has_same (map (λ (c : CoverLine). c.output) covers) name)
    (distinct (flat_map cover_signals covers))
    ∙ ap (λ (cs : List CoverLine). filter (has_name (map (λ (c : CoverLine). c.output) cs)) (distinct (flat_map cover_signals cs))) c

-- ---- by the definition

-- the network behind what is unrolled
pub network_is : (blif : Blif) (m : ℕ) (p : Place) (names : List (List ℕ)) (model : BlifModel) (own : FlatModel) → IsPlace blif p → place_in p ≡ top_model m → names ≡ network_names (model_at blif m)
    → model ≡ model_at blif m → own ≡ unrolled_of blif m → with_network (number_in p) names model own ≡ flat_model_of blif m
unfolding flat_model_of
network_is blif m p names model own is top n b e =
    let number : number_in p ≡ signal_at blif (top_model m) = signal_is blif p is ∙ ap (signal_at blif) top in
    ap₂ (λ (f : List ℕ → ℕ) (ns : List (List ℕ)). with_network f ns model own) number n
    ∙ ap₂ (λ (x : BlifModel) (flat : FlatModel). with_network (signal_at blif (top_model m)) (network_names (model_at blif m)) x flat) b e

-- where there is no model there is no network
no_covers : (blif : Blif) (m : ℕ) → slice_get blif.models m ≡ None → (model_at blif m).exdc ≡ []
no_covers blif m none =
    ap (λ (o : Option BlifModel). (unwrap_or o (record { line = 0; name = []; inputs = []; input_lines = []; clocks = []; clock_lines = []; outputs = []; output_lines = []; covers = []; latches = []; subs = []; exdc = [] })).exdc) none

pub none_alone : (blif : Blif) (m : ℕ) (own : FlatModel) → slice_get blif.models m ≡ None → own ≡ unrolled_of blif m → own ≡ flat_model_of blif m
none_alone blif m own none e = e ∙ sym (own_alone blif m (no_covers blif m none))

pub none_named : (blif : Blif) (m : ℕ) (names : List (List ℕ)) → slice_get blif.models m ≡ None → names ≡ [] → names ≡ network_names (model_at blif m)
none_named blif m names none e = e ∙ sym (no_names (model_at blif m) (no_covers blif m none))

-- ---- how much stands in it

pub signals_with : (blif : Blif) (m : ℕ) → length (flat_model_of blif m).signals ≡ length (unrolled_of blif m).signals + length (network_names (model_at blif m))
unfolding flat_model_of
signals_with blif m =
    length-append (unrolled_of blif m).signals (map dc_name (network_names (model_at blif m))) ∙ ap (λ k. length (unrolled_of blif m).signals + k) (length-map (network_names (model_at blif m)) dc_name)

pub rows_with : (blif : Blif) (m : ℕ) → sum_by (λ (c : Cover). length c.rows) (flat_model_of blif m).covers ≡ sum_by (λ (c : Cover). length c.rows) (unrolled_of blif m).covers + rows_of (model_at blif m).exdc
unfolding flat_model_of
rows_with blif m =
    let behind : CoverLine → Cover = cover_behind (signal_at blif (top_model m)) (network_names (model_at blif m)) (length (unrolled_of blif m).signals) in
    sum_by-append (λ (c : Cover). length c.rows) (unrolled_of blif m).covers (map behind (model_at blif m).exdc)
    ∙ ap (λ k. sum_by (λ (c : Cover). length c.rows) (unrolled_of blif m).covers + k) (sum_map behind (λ (c : Cover). length c.rows) (model_at blif m).exdc)

-- the counts with those of the network
pub flat_counts : (blif : Blif) (m : ℕ) (own : Counts) (names : List (List ℕ)) (count rows : ℕ) → AreCounts blif m own → names ≡ network_names (model_at blif m) → count ≡ length names → rows ≡ carried (rows_of (model_at blif m).exdc)
    → AreFlatCounts blif m (counts_with own count rows)
flat_counts blif m own names count rows are n c r = record {
  signals =
      carried_both own.signals count (length (unrolled_of blif m).signals) (length (network_names (model_at blif m)))
      (ap carried are.signals ∙ carried_once (length (unrolled_of blif m).signals)) (ap carried (c ∙ ap length n))
      ∙ ap carried (sym (signals_with blif m));
  rows =
      carried_both own.rows rows (sum_by (λ (c : Cover). length c.rows) (unrolled_of blif m).covers) (rows_of (model_at blif m).exdc)
      (ap carried are.rows ∙ carried_once (sum_by (λ (c : Cover). length c.rows) (unrolled_of blif m).covers)) (ap carried r ∙ carried_once (rows_of (model_at blif m).exdc))
      ∙ ap carried (sym (rows_with blif m));
  subs = are.subs;
}
