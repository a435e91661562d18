-- What is unrolled of good models is well formed.
use Rattle.std.proofs.Common.{Bool, Some, ◌≡◌, ◌≤◌, ◌+◌, ◌++◌, ◌∷◌, inl, inr, [], ℕ, zero, suc, List, true, false, not, map, flat_map, length, Option, None, refl, ap, ap₂, sym, ◌∙◌, arith}
use Rattle.std.specs.Prelude.{◌==◌, All, filter, find, is_none, nat_lt, slice_get, sum_by, unwrap_or, cond}
use Rattle.std.proofs.lemmas.Bool.{cases_lt, or_parts}
use Rattle.std.proofs.lemmas.List.Elements.{All-head, All-tail}
use Rattle.vrt_model.specs.FlatBlif.{ModelPlace, all_models, flat_cover, flat_latch, unrolled_of, formals, inner_count, model_at, model_numbered, models_in, signal_at, top_model}
use Rattle.vrt_model.specs.FlatModels.{IsFlatModel, drivers_of}
use Rattle.vrt_model.specs.Inputs.{IsBlif, IsCoverLine, IsModel}
use Rattle.vrt_model.specs.Lists.{Among, At, has_name}
use Rattle.vrt_model.specs.Models.{AreModels, DriverFault, bad_formal, bad_formal_after, bad_sub, driver_fault_in, earlier_fault, interface_of, is_bad_sub, is_model, line_of_fault, models_within, network_of, own_fault}
use Rattle.vrt_model.specs.Unrolled.{deepest}
use Rattle.vrt_model.specs.Limits.{most_rows, most_signals}
use Rattle.vrt_model.specs.declared.blif.Blif.{Blif}
use Rattle.vrt_model.specs.declared.blif.BlifModel.{BlifModel}
use Rattle.vrt_model.specs.declared.blif.CoverLine.{CoverLine}
use Rattle.vrt_model.specs.declared.blif.LatchLine.{LatchLine}
use Rattle.vrt_model.specs.declared.blif.SubLine.{SubLine}
use Rattle.vrt_model.specs.declared.flat_model.Cover.{Cover}
use Rattle.vrt_model.specs.declared.flat_model.FlatLatch.{FlatLatch}
use Rattle.vrt_model.proofs.Members.{all_by, among_left, among_right, at_none, find_none}
use Rattle.vrt_model.proofs.Tests.{is_none_is, neither}
use Rattle.blif_checks.proofs.JudgeLaws.{network_is_model}
use Rattle.blif_flat.proofs.CountLaws.{signals_in}
use Rattle.blif_flat.proofs.OneDriverCounts.{hits, hits_flat, hits_is, hits_join, hits_map, span, span_within, total, total_both, total_same}
use Rattle.blif_flat.proofs.OneDriverDepths.{Ends, ends_upto, models_end}
use Rattle.blif_flat.proofs.OneDriverLines.{none_told}
use Rattle.blif_flat.proofs.OneDriverNames.{AllTied, IsDriven, is_driven}
use Rattle.blif_flat.proofs.OneDriverPlaces.{IsSubTied, IsTied, card_hits, gives, heads}
use Rattle.blif_flat.proofs.OneDriverSubs.{tie_kind}
use Rattle.blif_flat.proofs.OneDriverWhole.{AreDriven, counted}
use Rattle.blif_flat.proofs.RangeLaws.{good_unrolled}

-- ---- each model by its number

abbrev no_model : BlifModel
no_model = record { line = 0; name = []; inputs = []; input_lines = []; clocks = []; clock_lines = []; outputs = []; output_lines = []; covers = []; latches = []; subs = []; exdc = [] }

none_all : {X : Type 0} (P : X → Type 0) → All P []
none_all P = all_by P [] (λ x a. absurd (at_none a.0 x a.1))

empty_good : IsModel no_model
empty_good = record {
  inputs = λ i j x y a b e. absurd (at_none i x a);
  clocks = λ i j x y a b e. absurd (at_none i x a);
  outputs = λ i j x y a b e. absurd (at_none i x a);
  input_lines = refl;
  clock_lines = refl;
  output_lines = refl;
  covers = none_all IsCoverLine;
  latches = none_all (λ (l : LatchLine). l.init ≤ 3);
  exdc = none_all IsCoverLine;
}

good_at : (ms : List BlifModel) → All IsModel ms → (n : ℕ) → IsModel (unwrap_or (slice_get ms n) no_model)
good_at [] all n = empty_good
good_at (m ∷ ms) all zero = All-head IsModel m ms all
good_at (m ∷ ms) all (suc n) = good_at ms (All-tail IsModel m ms all) n

fault_at : (h : BlifModel → Option DriverFault) → h no_model ≡ None → (ms : List BlifModel) (n : ℕ) → ((i : ℕ) (m : BlifModel) → At ms i m → h m ≡ None) → h (unwrap_or (slice_get ms n) no_model) ≡ None
fault_at h e [] n none = e
fault_at h e (m ∷ ms) zero none = none 0 m refl
fault_at h e (m ∷ ms) (suc n) none = fault_at h e ms n (λ i x a. none (suc i) x a)

sub_there : (ms : List BlifModel) (n : ℕ) (s : SubLine) → Among (unwrap_or (slice_get ms n) no_model).subs s → Among (flat_map (λ (m : BlifModel). m.subs) ms) s
sub_there [] n s a = absurd (at_none a.0 s a.1)
sub_there (m ∷ ms) zero s a = among_left m.subs (flat_map (λ (m : BlifModel). m.subs) ms) s a
sub_there (m ∷ ms) (suc n) s a = among_right m.subs (flat_map (λ (m : BlifModel). m.subs) ms) s (sub_there ms n s a)

sub_fits : (blif : Blif) → bad_sub blif ≡ None → (n : ℕ) (s : SubLine) → Among (model_at blif n).subs s → IsSubTied blif s
sub_fits blif none n s a =
    let good : is_bad_sub blif s ≡ false = find_none (is_bad_sub blif) (flat_map (λ (m : BlifModel). m.subs) blif.models) s none (sub_there blif.models n s a) in
    let formal : bad_formal blif s ≡ None = is_none_is (bad_formal blif s) (or_parts (not (is_model blif s.model)) (not (is_none (bad_formal blif s))) good).1 in
    let m : BlifModel = model_at blif (model_numbered blif s.model) in
    let parts = neither (bad_formal_after (interface_of m) [] (formals s)) (find (λ name. not (has_name (formals s) name)) (m.inputs ++ m.clocks)) formal in
    record { fitting = parts.0; whole = parts.1 }

none_of_both : (a b : Option DriverFault) → earlier_fault a b ≡ None → (a ≡ None) × (b ≡ None)
none_of_both None b e = (refl, e)
none_of_both (Some f) None e = cc
none_of_both (Some f) (Some g) e = by_order (nat_lt (line_of_fault g) (line_of_fault f)) e where
  by_order : (t : Bool) → cond t (Some g) (Some f) ≡ None → (Some f ≡ None) × (Some g ≡ None)
  by_order true e = cc
  by_order false e = cc

no_fault_at : (blif : Blif) → AreModels blif → (n : ℕ) → driver_fault_in blif (model_at blif n) ≡ None
no_fault_at blif are n = fault_at (driver_fault_in blif) refl blif.models n (λ i m a. none_told (driver_fault_in blif) blif.models are.drivers i m a)

-- each model by its number is one
pub model_good : (blif : Blif) → IsBlif blif → (n : ℕ) → IsModel (model_at blif n)
model_good blif good n = good_at blif.models good.models n

-- the network of each model is driven once
pub network_driven : (blif : Blif) → IsBlif blif → AreModels blif → (n : ℕ) → IsDriven blif (network_of (model_at blif n))
network_driven blif good are n =
    is_driven blif (network_of (model_at blif n)) (network_is_model (model_at blif n) (model_good blif good n)) (λ s t a b. absurd (at_none a.0 s a.1))
    (none_of_both (own_fault blif (model_at blif n)) (own_fault blif (network_of (model_at blif n))) (no_fault_at blif are n)).1

-- good models are driven once throughout
pub good_driven : (blif : Blif) → IsBlif blif → AreModels blif → AreDriven blif
good_driven blif good are = record {
  models = good_at blif.models good.models;
  driven = λ n. is_driven blif (model_at blif n) (good_at blif.models good.models n) (all_tied n) (none_of_both (own_fault blif (model_at blif n)) (own_fault blif (network_of (model_at blif n))) (no_fault_at blif are n)).0;
  tied = sub_fits blif are.subs;
} where
  all_tied : (n : ℕ) → AllTied blif (model_at blif n)
  all_tied n s t a b = tie_kind blif s t (sub_fits blif are.subs n s a) b

-- ---- the unrolled model

past_end : (ms : List BlifModel) (n : ℕ) → length ms ≤ n → slice_get ms n ≡ None
past_end [] n le = refl
past_end (m ∷ ms) zero le = absurd (omega (arith, le))
past_end (m ∷ ms) (suc n) le = past_end ms n (omega (arith, le))

top_ends : (blif : Blif) (m : ℕ) → AreModels blif → Ends (models_within blif) 32 m
top_ends blif m are = elim (cases_lt m (length blif.models)) [
  | inl lt ↦ models_end blif are.well_founded are.shallow m lt
  | inr le ↦ ends_upto (models_within blif) 0 32 m (omega arith) (λ c a. absurd (nothing c (a.0, sym (empty c a.0 le) ∙ a.1)))
] where
  nothing : (c : ℕ) → ¬ Among [] c
  nothing c a = at_none a.0 c a.1

  empty : (c i : ℕ) → length blif.models ≤ m → slice_get (models_within blif m) i ≡ slice_get [] i
  empty c i le = ap (λ (o : Option BlifModel). slice_get (map (λ (s : SubLine). model_numbered blif s.model) (unwrap_or o no_model).subs) i) (past_end blif.models m le)

top_tied : (blif : Blif) (m : ℕ) → IsTied blif (top_model m)
top_tied blif m = record {
  apart = tt;
  count = refl;
  known = λ n e. none n e;
} where
  none : {P : Type 0} (n : List ℕ) → false ≡ true → P
  none n e = cc

covers_hits : (blif : Blif) (x : ℕ) (places : List ModelPlace)
    → hits (λ d. d == x) (map (λ (c : Cover). c.output) (flat_map (λ (at : ModelPlace). map (flat_cover blif at) (model_at blif at.model).covers) places))
    ≡ total (λ (at : ModelPlace). hits (λ (c : CoverLine). gives blif at x c.output) (model_at blif at.model).covers) places
covers_hits blif x places =
    hits_map (λ d. d == x) (λ (c : Cover). c.output) (flat_map (λ (at : ModelPlace). map (flat_cover blif at) (model_at blif at.model).covers) places)
    ∙ hits_flat (λ (c : Cover). c.output == x) (λ (at : ModelPlace). map (flat_cover blif at) (model_at blif at.model).covers) places
    ∙ total_same (λ (at : ModelPlace). hits (λ (c : Cover). c.output == x) (map (flat_cover blif at) (model_at blif at.model).covers))
    (λ (at : ModelPlace). hits (λ (c : CoverLine). gives blif at x c.output) (model_at blif at.model).covers) places
    (λ i at e. hits_map (λ (c : Cover). c.output == x) (flat_cover blif at) (model_at blif at.model).covers)

latches_hits : (blif : Blif) (x : ℕ) (places : List ModelPlace)
    → hits (λ d. d == x) (map (λ (l : FlatLatch). l.output) (flat_map (λ (at : ModelPlace). map (flat_latch blif at) (model_at blif at.model).latches) places))
    ≡ total (λ (at : ModelPlace). hits (λ (l : LatchLine). gives blif at x l.output) (model_at blif at.model).latches) places
latches_hits blif x places =
    hits_map (λ d. d == x) (λ (l : FlatLatch). l.output) (flat_map (λ (at : ModelPlace). map (flat_latch blif at) (model_at blif at.model).latches) places)
    ∙ hits_flat (λ (l : FlatLatch). l.output == x) (λ (at : ModelPlace). map (flat_latch blif at) (model_at blif at.model).latches) places
    ∙ total_same (λ (at : ModelPlace). hits (λ (l : FlatLatch). l.output == x) (map (flat_latch blif at) (model_at blif at.model).latches))
    (λ (at : ModelPlace). hits (λ (l : LatchLine). gives blif at x l.output) (model_at blif at.model).latches) places
    (λ i at e. hits_map (λ (l : FlatLatch). l.output == x) (flat_latch blif at) (model_at blif at.model).latches)

-- what drives a signal: the interface, and the cards of all places
drivers_hits : (blif : Blif) (m x : ℕ)
    → hits (λ d. d == x) (drivers_of (unrolled_of blif m)) ≡ hits (gives blif (top_model m) x) (heads (model_at blif m)) + total (card_hits blif x) (models_in blif deepest (top_model m))
unfolding unrolled_of all_models
drivers_hits blif m x =
    let top : ModelPlace = top_model m in
    let model : BlifModel = model_at blif m in
    let places : List ModelPlace = models_in blif deepest top in
    let inputs : List ℕ = map (signal_at blif top) model.inputs in
    let others : List (List ℕ) = filter (λ name. not (has_name model.inputs name)) model.clocks in
    let clocks : List ℕ = map (signal_at blif top) others in
    let covers : List ℕ = map (λ (c : Cover). c.output) (flat_map (λ (at : ModelPlace). map (flat_cover blif at) (model_at blif at.model).covers) places) in
    let latches : List ℕ = map (λ (l : FlatLatch). l.output) (flat_map (λ (at : ModelPlace). map (flat_latch blif at) (model_at blif at.model).latches) places) in
    joined _ _ _ _ _ _ (hits_join (λ d. d == x) (inputs ++ clocks ++ covers) latches ∙ ap (λ (k : ℕ). k + hits (λ d. d == x) latches) (hits_join (λ d. d == x) (inputs ++ clocks) covers))
    (hits_join (λ d. d == x) inputs clocks ∙ ap₂ ◌+◌ (hits_map (λ d. d == x) (signal_at blif top) model.inputs) (hits_map (λ d. d == x) (signal_at blif top) others)
    ∙ sym (hits_join (gives blif top x) model.inputs others))
    (total_both (λ (at : ModelPlace). hits (λ (c : CoverLine). gives blif at x c.output) (model_at blif at.model).covers) (λ (at : ModelPlace). hits (λ (l : LatchLine). gives blif at x l.output) (model_at blif at.model).latches) places
    ∙ ap₂ ◌+◌ (sym (covers_hits blif x places)) (sym (latches_hits blif x places))) where
      joined : (all first c l head cards : ℕ) → all ≡ (first + c) + l → first ≡ head → cards ≡ c + l → all ≡ head + cards
      joined all first c l head cards a b d = omega (arith, a, b, d)

signal_count : (blif : Blif) (m : ℕ) → length (unrolled_of blif m).signals ≡ inner_count blif deepest (model_at blif m) []
unfolding unrolled_of all_models
signal_count blif m = signals_in blif deepest (top_model m)

-- how often a signal is driven: once if it is there
pub drivers_span : (blif : Blif) (m x : ℕ) → IsBlif blif → AreModels blif → hits (λ d. d == x) (drivers_of (unrolled_of blif m)) ≡ span 0 (length (unrolled_of blif m).signals) x
drivers_span blif m x good are =
    drivers_hits blif m x ∙ counted blif x deepest (top_model m) (good_driven blif good are) (top_tied blif m) (top_ends blif m are) ∙ none_more (span 0 (inner_count blif deepest (model_at blif m) []) x)
    ∙ ap (λ k. span 0 k x) (sym (signal_count blif m)) where
      none_more : (n : ℕ) → 0 + n ≡ n
      none_more n = omega arith

-- what is unrolled of good models, within the limits, is well formed
pub unrolled_good : (blif : Blif) (m : ℕ) → IsBlif blif → AreModels blif → length (unrolled_of blif m).signals ≤ most_signals → sum_by (λ (c : Cover). length c.rows) (unrolled_of blif m).covers ≤ most_rows
    → IsFlatModel (unrolled_of blif m)
unrolled_good blif m good are few rows =
    good_unrolled blif m good few rows
    (λ x lt.
    sym (hits_is (λ d. d == x) (drivers_of (unrolled_of blif m))) ∙ drivers_span blif m x good are ∙ span_within (length (unrolled_of blif m).signals) 0 x (omega arith) (omega (arith, lt)))
