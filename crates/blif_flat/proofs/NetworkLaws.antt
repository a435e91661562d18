-- The flat model of good models, with its network, is well formed.
use Rattle.std.proofs.Common.{◌≡◌, ◌<◌, ◌≤◌, ◌+◌, ◌++◌, ◌∷◌, ◌&&◌, inl, inr, [], ℕ, zero, suc, List, Bool, true, false, cond, map, flat_map, filter, length, Option, Some, None, option_map, refl, ap, ap₂, sym, ◌∙◌, subst, arith}
use Rattle.std.specs.Prelude.{◌==◌, All, bytes_eq, filter_map, not, unwrap_or}
use Rattle.std.proofs.lemmas.Bool.{and_parts}
use Rattle.std.proofs.lemmas.List.{length-map, map-append}
use Rattle.std.proofs.lemmas.Option.{same_Some}
use Rattle.std.proofs.lemmas.Slice.Eq.{bytes_eq-Decides}
use Rattle.vrt_model.proofs.Lists.{among_filter_map, map_among}
use Rattle.vrt_model.proofs.Members.{all_among, all_by, among_either, among_filter, among_left, among_map, among_right, any_among, at_none, flat_map_among}
use Rattle.vrt_model.specs.FlatBlif.{cover_signals, dontcare_of, flat_model_of, model_at, network_cover, network_names, network_signal, signal_at, signals_of, top_model, unrolled_of}
use Rattle.vrt_model.specs.FlatModels.{IsCover, IsFlatModel, IsLatch, IsControl, IsRow, drivers_of}
use Rattle.vrt_model.specs.Inputs.{IsBlif, IsCoverLine, IsModel}
use Rattle.vrt_model.specs.Lists.{Among, distinct, has_name, place_of}
use Rattle.vrt_model.specs.Models.{AreModels, OnLine, drivers_in, network_of}
use Rattle.vrt_model.specs.Unsupported.{model_limits, too_large}
use Rattle.vrt_model.specs.declared.blif.Blif.{Blif}
use Rattle.vrt_model.specs.declared.blif.BlifModel.{BlifModel}
use Rattle.vrt_model.specs.declared.blif.CoverLine.{CoverLine}
use Rattle.vrt_model.specs.declared.flat_model.Cover.{Cover}
use Rattle.vrt_model.specs.declared.flat_model.DontCare.{DontCare}
use Rattle.vrt_model.specs.declared.flat_model.FlatLatch.{FlatLatch}
use Rattle.vrt_model.specs.declared.flat_model.FlatModel.{FlatModel}
use Rattle.names.proofs.ApartLaws.{NoRepeat, kept_apart, once_apart}
use Rattle.names.proofs.FilterLaws.{has_name_filter}
use Rattle.names.proofs.NameLaws.{once_has_same}
use Rattle.names.proofs.PlaceLaws.{at_among, placed_within}
use Rattle.blif_checks.proofs.JudgeLaws.{network_is_model}
use Rattle.blif_checks.specs.Mentions.{number_among}
use Rattle.blif_flat.proofs.FlatLaws.{rows_within, signals_within}
use Rattle.blif_flat.proofs.NetworkMade.{rows_with, signals_with}
use Rattle.blif_flat.proofs.OneDriverCounts.{hits, hits_is, hits_join, hits_map, hits_numbers, hits_once, hits_same, place_none, place_number, span, span_join, span_within}
use Rattle.blif_flat.proofs.OneDriverLaws.{drivers_span, model_good, network_driven, unrolled_good}
use Rattle.blif_flat.proofs.OneDriverPlaces.{drivers_by_kind, heads}
use Rattle.blif_flat.proofs.RangeLaws.{clock_named, cover_named, input_named, output_named as model_output, top_named}

-- ---- the names that a network drives

abbrev outputs_in : BlifModel → List (List ℕ)
outputs_in m = map (λ (c : CoverLine). c.output) m.exdc

-- they are the outputs of its covers
driven_name : (m : BlifModel) (n : List ℕ) → has_name (network_names m) n ≡ (has_name (outputs_in m) n && has_name (flat_map cover_signals m.exdc) n)
unfolding network_names
driven_name m n =
    has_name_filter (has_name (outputs_in m)) (distinct (flat_map cover_signals m.exdc)) n ∙ ap (λ b. has_name (outputs_in m) n && b) (once_has_same (flat_map cover_signals m.exdc) n)

driven_apart : (m : BlifModel) → NoRepeat (network_names m)
unfolding network_names
driven_apart m = kept_apart (has_name (outputs_in m)) (distinct (flat_map cover_signals m.exdc)) (once_apart (flat_map cover_signals m.exdc))

output_among : (m : BlifModel) (c : CoverLine) → Among m.exdc c → has_name (network_names m) c.output ≡ true
output_among m c a =
    let listed = map_among (λ (c : CoverLine). c.output) m.exdc c a in
    let named = flat_map_among cover_signals m.exdc c c.output a (among_right c.inputs (c.output ∷ []) c.output (0, refl)) in
    driven_name m c.output ∙ ap₂ (λ a b. a && b) (at_among (outputs_in m) listed.0 c.output listed.1) (at_among (flat_map cover_signals m.exdc) named.0 c.output named.1)

output_named : (m : BlifModel) (n : List ℕ) → has_name (outputs_in m) n ≡ true → has_name (network_names m) n ≡ true
output_named m n e =
    let x = any_among (bytes_eq n) (outputs_in m) e in
    let c = among_map (λ (c : CoverLine). c.output) m.exdc x.0 x.1 in
    subst (λ (y : List ℕ). has_name (network_names m) y ≡ true) (c.2 ∙ sym ((bytes_eq-Decides n x.0).0 x.2)) (output_among m c.0 c.1)

-- ---- one driver for each

kept_hits : {X : Type 0} (p : X → Bool) (xs : List X) → length (filter p xs) ≡ hits p xs
kept_hits p [] = refl
kept_hits p (x ∷ xs) = by_test (p x) (kept_hits p xs) where
  by_test : (b : Bool) → length (filter p xs) ≡ hits p xs → length (cond b (x ∷ filter p xs) (filter p xs)) ≡ cond b 1 0 + hits p xs
  by_test true e = omega (arith, e)
  by_test false e = omega (arith, e)

some_hit : {X : Type 0} (p : X → Bool) (xs : List X) → 0 < hits p xs → (x : X) × Among xs x × (p x ≡ true)
some_hit p [] lt = absurd (omega (arith, lt))
some_hit {X} p (x ∷ xs) lt = by_test (p x) refl lt (some_hit p xs) where
  by_test : (b : Bool) → p x ≡ b → 0 < cond b 1 0 + hits p xs → (0 < hits p xs → (y : X) × Among xs y × (p y ≡ true)) → (y : X) × Among (x ∷ xs) y × (p y ≡ true)
  by_test true e lt rest = (x, (0, refl), e)
  by_test false e lt rest = let found = rest (omega (arith, lt)) in (found.0, (suc found.1.0, found.1.1), found.2)

hit_there : {X : Type 0} (p : X → Bool) (xs : List X) (x : X) → Among xs x → p x ≡ true → 0 < hits p xs
hit_there p [] x a e = absurd (at_none a.0 x a.1)
hit_there p (y ∷ xs) x (zero, a) e = by_test (p y) (ap p (same_Some y x a) ∙ e) where
  by_test : (b : Bool) → b ≡ true → 0 < cond b 1 0 + hits p xs
  by_test true t = omega arith
  by_test false t = cc
hit_there p (y ∷ xs) x (suc i, a) e = let rest = hit_there p xs x (i, a) e in omega (arith, rest)

network_model : (blif : Blif) (m : ℕ) → IsBlif blif → IsModel (network_of (model_at blif m))
network_model blif m good = network_is_model (model_at blif m) (model_good blif good m)

-- a name of a network is an input or a clock of the model, or the output of one cover
driven_once : (blif : Blif) (m : ℕ) (n : List ℕ) → IsBlif blif → AreModels blif → has_name (signals_of (network_of (model_at blif m))) n ≡ true
    → hits (bytes_eq n) (heads (model_at blif m)) + hits (λ (c : CoverLine). bytes_eq n c.output) (model_at blif m).exdc ≡ 1
driven_once blif m n good are named =
    joined (hits (bytes_eq n) (heads (model_at blif m))) (hits (λ (c : CoverLine). bytes_eq n c.output) (model_at blif m).exdc) (hits (λ (o : OnLine). bytes_eq n o.name) (drivers_in blif (network_of (model_at blif m)))) _ _
    (drivers_by_kind blif (network_of (model_at blif m)) (bytes_eq n) (network_model blif m good))
    (hits_map (bytes_eq n) (λ (o : OnLine). o.name) (drivers_in blif (network_of (model_at blif m))))
    (kept_hits (bytes_eq n) (map (λ (o : OnLine). o.name) (drivers_in blif (network_of (model_at blif m)))))
    ((network_driven blif good are m).one n named) where
      joined : (a b driven named kept : ℕ) → driven ≡ a + b + 0 + 0 → named ≡ driven → kept ≡ named → kept ≡ 1 → a + b ≡ 1
      joined a b driven named kept e f g h = omega (arith, e, f, g, h)

-- a name that a network drives is the output of one cover
one_output : (blif : Blif) (m : ℕ) (n : List ℕ) → IsBlif blif → AreModels blif → has_name (network_names (model_at blif m)) n ≡ true → length (filter (bytes_eq n) (outputs_in (model_at blif m))) ≡ 1
one_output blif m n good are driven =
    let model : BlifModel = model_at blif m in
    let listed = (and_parts (has_name (outputs_in model) n) (has_name (flat_map cover_signals model.exdc) n) (sym (driven_name model n) ∙ driven)).0 in
    let x = any_among (bytes_eq n) (outputs_in model) listed in
    let c = among_map (λ (c : CoverLine). c.output) model.exdc x.0 x.1 in
    let same : c.0.output ≡ n = c.2 ∙ sym ((bytes_eq-Decides n x.0).0 x.2) in
    let named : has_name (signals_of (network_of model)) n ≡ true =
    subst (λ (y : List ℕ). has_name (signals_of (network_of model)) y ≡ true) same (cover_named (network_of model) c.0 c.0.output c.1 (among_right c.0.inputs (c.0.output ∷ []) c.0.output (0, refl))) in
    let once = driven_once blif m n good are named in
    let some = hit_there (λ (c : CoverLine). bytes_eq n c.output) model.exdc c.0 c.1 (ap (bytes_eq n) c.2 ∙ x.2) in
    let by_cover = hits_map (bytes_eq n) (λ (c : CoverLine). c.output) model.exdc in
    let kept = kept_hits (bytes_eq n) (outputs_in model) in
    joined _ _ _ _ once some by_cover kept where
      joined : (a b listed kept : ℕ) → a + b ≡ 1 → 0 < b → listed ≡ b → kept ≡ listed → kept ≡ 1
      joined a b listed kept e f g h = omega (arith, e, f, g, h)

-- ---- numbers

-- a name that the network drives stands behind the model's own signals
driven_number : (blif : Blif) (m count : ℕ) (n : List ℕ) → has_name (network_names (model_at blif m)) n ≡ true → network_signal blif m count n ≡ count + number_among (network_names (model_at blif m)) n
driven_number blif m count n e = ap (λ o. unwrap_or (option_map (λ (k : ℕ). count + k) o) (signal_at blif (top_model m) n)) (place_number (network_names (model_at blif m)) n e)

number_within : (names : List (List ℕ)) (n : List ℕ) → has_name names n ≡ true → number_among names n < length names
number_within names n e = placed_within (bytes_eq n) names (number_among names n) (place_number names n e)

-- another name is an input or a clock of the model
head_named : (m : BlifModel) (n : List ℕ) → Among (heads m) n → has_name (signals_of m) n ≡ true
head_named m n a = elim (among_either m.inputs (filter (λ name. not (has_name m.inputs name)) m.clocks) n a) [
  | inl input ↦ input_named m n input
  | inr clock ↦ clock_named m n (among_filter (λ name. not (has_name m.inputs name)) m.clocks n clock)
]

-- another name is no output of the network
not_output : (m : BlifModel) (n : List ℕ) → has_name (network_names m) n ≡ false → hits (λ (c : CoverLine). bytes_eq n c.output) m.exdc ≡ 0
not_output m n out = by_count (hits (λ (c : CoverLine). bytes_eq n c.output) m.exdc) refl where
  by_count : (k : ℕ) → hits (λ (c : CoverLine). bytes_eq n c.output) m.exdc ≡ k → k ≡ 0
  by_count zero e = refl
  by_count (suc k) e =
      let found = some_hit (λ (c : CoverLine). bytes_eq n c.output) m.exdc (omega (arith, e)) in
      let both : true ≡ false = sym (output_among m found.0 found.1) ∙ ap (has_name (network_names m)) (sym ((bytes_eq-Decides n found.0.output).0 found.2)) ∙ out in cc

-- so it is an input or a clock
is_head : (blif : Blif) (m : ℕ) (n : List ℕ) → IsBlif blif → AreModels blif → has_name (signals_of (network_of (model_at blif m))) n ≡ true → has_name (network_names (model_at blif m)) n ≡ false
    → has_name (signals_of (model_at blif m)) n ≡ true
is_head blif m n good are named out =
    let once = driven_once blif m n good are named in
    let none = not_output (model_at blif m) n out in
    let found = some_hit (bytes_eq n) (heads (model_at blif m)) (omega (arith, once, none)) in
    subst (λ (y : List ℕ). has_name (signals_of (model_at blif m)) y ≡ true) (sym ((bytes_eq-Decides n found.0).0 found.2)) (head_named (model_at blif m) found.0 found.1)

-- each name in a network is a signal
network_below : (blif : Blif) (m : ℕ) (n : List ℕ) → IsBlif blif → AreModels blif → has_name (signals_of (network_of (model_at blif m))) n ≡ true
    → network_signal blif m (length (unrolled_of blif m).signals) n < length (unrolled_of blif m).signals + length (network_names (model_at blif m))
network_below blif m n good are named = by_test (has_name (network_names (model_at blif m)) n) refl where
  driven : (number count place names : ℕ) → number ≡ count + place → place < names → number < count + names
  driven number count place names e lt = omega (arith, e, lt)

  own : (number other count names : ℕ) → number ≡ other → other < count → number < count + names
  own number other count names e lt = omega (arith, e, lt)

  by_test : (b : Bool) → has_name (network_names (model_at blif m)) n ≡ b
      → network_signal blif m (length (unrolled_of blif m).signals) n < length (unrolled_of blif m).signals + length (network_names (model_at blif m))
  by_test true e =
      driven _ (length (unrolled_of blif m).signals) (number_among (network_names (model_at blif m)) n) _ (driven_number blif m (length (unrolled_of blif m).signals) n e)
      (number_within (network_names (model_at blif m)) n e)
  by_test false e =
      own _ (signal_at blif (top_model m) n) (length (unrolled_of blif m).signals) _
      (ap (λ o. unwrap_or (option_map (λ (k : ℕ). length (unrolled_of blif m).signals + k) o) (signal_at blif (top_model m) n)) (place_none (network_names (model_at blif m)) n e))
      (top_named blif m n (is_head blif m n good are named e))

-- ---- drivers

-- how often the covers of a network drive a signal
cover_hits : (blif : Blif) (m x : ℕ) → IsBlif blif → AreModels blif
    → hits (λ d. d == x) (map (λ (c : Cover). c.output) (map (network_cover blif m (length (unrolled_of blif m).signals)) (model_at blif m).exdc))
    ≡ span (length (unrolled_of blif m).signals) (length (network_names (model_at blif m))) x
cover_hits blif m x good are =
    let model : BlifModel = model_at blif m in
    let count : ℕ = length (unrolled_of blif m).signals in
    let names : List (List ℕ) = network_names model in
    let here : List ℕ → Bool = λ n. (length (unrolled_of blif m).signals + number_among (network_names (model_at blif m)) n) == x in
    hits_map (λ d. d == x) (λ (c : Cover). c.output) (map (network_cover blif m count) model.exdc)
    ∙ hits_map (λ (c : Cover). c.output == x) (network_cover blif m count) model.exdc
    ∙ hits_same (λ (c : CoverLine). network_signal blif m count c.output == x) (λ (c : CoverLine). here c.output) model.exdc
    (λ i c a. ap (λ k. k == x) (driven_number blif m count c.output (output_among model c (i, a))))
    ∙ sym (hits_map here (λ (c : CoverLine). c.output) model.exdc)
    ∙ hits_once here names (outputs_in model) (driven_apart model) (λ n e. one_output blif m n good are e) (output_named model)
    ∙ hits_numbers count x names (driven_apart model)

-- what drives a signal: what is unrolled, and the covers of the network
with_behind : (blif : Blif) (m x : ℕ)
    → hits (λ d. d == x) (drivers_of (flat_model_of blif m))
    ≡ hits (λ d. d == x) (drivers_of (unrolled_of blif m)) + hits (λ d. d == x) (map (λ (c : Cover). c.output) (map (network_cover blif m (length (unrolled_of blif m).signals)) (model_at blif m).exdc))
unfolding flat_model_of
with_behind blif m x =
    let own : FlatModel = unrolled_of blif m in
    let heads : List ℕ = own.inputs ++ own.clocks in
    let latches : List ℕ = map (λ (l : FlatLatch). l.output) own.latches in
    let outputs : List Cover → List ℕ = map (λ (c : Cover). c.output) in
    let behind : List Cover = map (network_cover blif m (length own.signals)) (model_at blif m).exdc in
    joined _ _ _ _ _ _ _ _
    (hits_join (λ d. d == x) (heads ++ outputs (own.covers ++ behind)) latches)
    (hits_join (λ d. d == x) heads (outputs (own.covers ++ behind)))
    (ap (hits (λ d. d == x)) (map-append (λ (c : Cover). c.output) own.covers behind) ∙ hits_join (λ d. d == x) (outputs own.covers) (outputs behind))
    (hits_join (λ d. d == x) (heads ++ outputs own.covers) latches ∙ ap (λ k. k + hits (λ d. d == x) latches) (hits_join (λ d. d == x) heads (outputs own.covers))) where
      joined : (all front covers head latches own behind unrolled : ℕ) → all ≡ front + latches → front ≡ head + covers → covers ≡ own + behind → unrolled ≡ (head + own) + latches → all ≡ unrolled + behind
      joined all front covers head latches own behind unrolled a b c d = omega (arith, a, b, c, d)

-- how often a flat signal is driven
all_hits : (blif : Blif) (m x : ℕ) → IsBlif blif → AreModels blif → hits (λ d. d == x) (drivers_of (flat_model_of blif m)) ≡ span 0 (length (flat_model_of blif m).signals) x
all_hits blif m x good are =
    with_behind blif m x ∙ ap₂ ◌+◌ (drivers_span blif m x good are) (cover_hits blif m x good are)
    ∙ ap (λ k. span 0 (length (unrolled_of blif m).signals) x + span k (length (network_names (model_at blif m))) x) (none_more (length (unrolled_of blif m).signals))
    ∙ sym (span_join (length (unrolled_of blif m).signals) (length (network_names (model_at blif m))) 0 x) ∙ ap (λ k. span 0 k x) (sym (signals_with blif m)) where
      none_more : (n : ℕ) → n ≡ 0 + n
      none_more n = omega arith

-- ---- the flat model

all_wider : {X : Type 0} (P Q : X → Type 0) (xs : List X) → ((x : X) → P x → Q x) → All P xs → All Q xs
all_wider P Q xs wider all = all_by Q xs (λ x a. wider x (all_among P xs x all a))

control_wider : (few many : ℕ) (o : Option ℕ) → few ≤ many → IsControl few o → IsControl many o
control_wider few many None le is = tt
control_wider few many (Some s) le is = omega (arith, le, is)

cover_wider : (few many : ℕ) (c : Cover) → few ≤ many → IsCover few c → IsCover many c
cover_wider few many c le is = record {
  inputs = all_wider (λ s. s < few) (λ s. s < many) c.inputs (λ s lt. omega (arith, lt, le)) is.inputs;
  output = let lt = is.output in omega (arith, lt, le);
  rows = is.rows;
}

latch_wider : (few many : ℕ) (l : FlatLatch) → few ≤ many → IsLatch few l → IsLatch many l
latch_wider few many l le is = record {
  input = let lt = is.input in omega (arith, lt, le);
  output = let lt = is.output in omega (arith, lt, le);
  control = control_wider few many l.control le is.control;
}

-- a cover of a network is between signals
cover_fits : (blif : Blif) (m total : ℕ) (c : CoverLine) → IsBlif blif → AreModels blif → length (unrolled_of blif m).signals + length (network_names (model_at blif m)) ≤ total → Among (model_at blif m).exdc c
    → IsCover total (network_cover blif m (length (unrolled_of blif m).signals) c)
cover_fits blif m total c good are le a = record {
  inputs =
      all_by (λ s. s < total) (map (network_signal blif m (length (unrolled_of blif m).signals)) c.inputs)
      (λ x b.
      let n = among_map (network_signal blif m (length (unrolled_of blif m).signals)) c.inputs x b in
      subst (λ s. s < total) n.2 (within _ _ (network_below blif m n.0 good are (cover_named (network_of (model_at blif m)) c n.0 a (among_left c.inputs (c.output ∷ []) n.0 n.1))) le));
  output = within _ _ (network_below blif m c.output good are (cover_named (network_of (model_at blif m)) c c.output a (among_right c.inputs (c.output ∷ []) c.output (0, refl)))) le;
  rows =
      let fits = all_among IsCoverLine (model_at blif m).exdc c (model_good blif good m).exdc a in
      subst (λ w. All (IsRow w) c.rows) (sym (length-map c.inputs (network_signal blif m (length (unrolled_of blif m).signals)))) fits.rows;
} where
  within : (s most : ℕ) → s < most → most ≤ total → s < total
  within s most lt low = omega (arith, lt, low)

-- a don't-care bit is a signal
dontcare_fits : (blif : Blif) (m total : ℕ) (n : List ℕ) (d : DontCare) → length (unrolled_of blif m).signals + length (network_names (model_at blif m)) ≤ total → Among (model_at blif m).outputs n
    → dontcare_of blif m (length (unrolled_of blif m).signals) n ≡ Some d → (d.output < total) × (d.bit < total)
dontcare_fits blif m total n d le a e = by_place (place_of (network_names (model_at blif m)) n) refl e where
  own : (s count names : ℕ) → s < count → count + names ≤ total → s < total
  own s count names lt low = omega (arith, lt, low)

  behind : (k count names : ℕ) → k < names → count + names ≤ total → count + k < total
  behind k count names lt low = omega (arith, lt, low)

  by_place : (o : Option ℕ) → place_of (network_names (model_at blif m)) n ≡ o
      → option_map (λ (k : ℕ). let one : DontCare = record { output = signal_at blif (top_model m) n; bit = length (unrolled_of blif m).signals + k } in one) o ≡ Some d → (d.output < total) × (d.bit < total)
  by_place None h e = cc
  by_place (Some k) h e =
      let one : DontCare = record { output = signal_at blif (top_model m) n; bit = length (unrolled_of blif m).signals + k } in
      subst (λ (x : DontCare). (x.output < total) × (x.bit < total)) (same_Some one d e) (
        own (signal_at blif (top_model m) n) (length (unrolled_of blif m).signals) (length (network_names (model_at blif m))) (top_named blif m n (model_output (model_at blif m) n a)) le,
        behind k (length (unrolled_of blif m).signals) (length (network_names (model_at blif m))) (placed_within (bytes_eq n) (network_names (model_at blif m)) k h) le,
      )

-- a sum within a limit
part_within : (whole part more most : ℕ) → whole ≡ part + more → whole ≤ most → part ≤ most
part_within whole part more most e le = omega (arith, e, le)

part_of_whole : (whole part more : ℕ) → whole ≡ part + more → part ≤ whole
part_of_whole whole part more e = omega (arith, e)

sum_of_whole : (whole part more : ℕ) → whole ≡ part + more → part + more ≤ whole
sum_of_whole whole part more e = omega (arith, e)

below_more : (s few many : ℕ) → few ≤ many → s < few → s < many
below_more s few many le lt = omega (arith, le, lt)

from_zero : (x n : ℕ) → x < n → x < 0 + n
from_zero x n lt = omega (arith, lt)

-- the flat model of good models, within the limits, is well formed
pub flat_good : (blif : Blif) (m : ℕ) → IsBlif blif → AreModels blif → too_large (model_limits blif m) ≡ None → IsFlatModel (flat_model_of blif m)
unfolding flat_model_of
flat_good blif m good are within =
    let model : BlifModel = model_at blif m in
    let count : ℕ = length (unrolled_of blif m).signals in
    let total : ℕ = length (flat_model_of blif m).signals in
    let few = signals_within blif m within in
    let short = rows_within blif m within in
    let own = unrolled_good blif m good are (part_within _ _ _ _ (signals_with blif m) few) (part_within _ _ _ _ (rows_with blif m) short) in
    let le : count ≤ total = part_of_whole _ _ _ (signals_with blif m) in
    let wide : (s : ℕ) → s < count → s < total = λ s lt. below_more s count total le lt in
    let most : count + length (network_names model) ≤ total = sum_of_whole _ _ _ (signals_with blif m) in
    record {
      signal_limit = few;
      row_limit = short;
      inputs = all_wider (λ s. s < count) (λ s. s < total) (unrolled_of blif m).inputs wide own.inputs;
      clocks = all_wider (λ s. s < count) (λ s. s < total) (unrolled_of blif m).clocks wide own.clocks;
      outputs = all_wider (λ s. s < count) (λ s. s < total) (unrolled_of blif m).outputs wide own.outputs;
      covers =
          all_by (IsCover total) ((unrolled_of blif m).covers ++ map (network_cover blif m count) model.exdc)
          (λ x a. elim (among_either (unrolled_of blif m).covers (map (network_cover blif m count) model.exdc) x a) [
            | inl there ↦ cover_wider count total x le (all_among (IsCover count) (unrolled_of blif m).covers x own.covers there)
            | inr behind ↦ let c = among_map (network_cover blif m count) model.exdc x behind in subst (IsCover total) c.2 (cover_fits blif m total c.0 good are most c.1)
          ]);
      latches = all_wider (IsLatch count) (IsLatch total) (unrolled_of blif m).latches (λ l is. latch_wider count total l le is) own.latches;
      dontcares =
          all_by (λ (d : DontCare). (d.output < total) × (d.bit < total)) (filter_map (dontcare_of blif m count) model.outputs)
          (λ d a. let n = among_filter_map (dontcare_of blif m count) model.outputs d a in dontcare_fits blif m total n.0 d most n.1 n.2);
      one_driver =
          λ x lt. sym (hits_is (λ d. d == x) (drivers_of (flat_model_of blif m))) ∙ all_hits blif m x good are ∙ span_within total 0 x (omega arith) (from_zero x total lt);
    }

-- so is what is equal to it
pub is_flat : (blif : Blif) (m : ℕ) (flat : FlatModel) → IsBlif blif → AreModels blif → too_large (model_limits blif m) ≡ None → flat ≡ flat_model_of blif m → IsFlatModel flat
is_flat blif m flat good are within e = subst IsFlatModel (sym e) (flat_good blif m good are within)

-- ---- room for what is made

pub unrolled_room : (blif : Blif) (m : ℕ) → length (flat_model_of blif m).signals ≤ 20000 → length (unrolled_of blif m).signals ≤ 20000
unrolled_room blif m le = part_within _ _ _ _ (signals_with blif m) le

pub network_room : (blif : Blif) (m : ℕ) (own : FlatModel) (names : List (List ℕ)) → own ≡ unrolled_of blif m → names ≡ network_names (model_at blif m) → length (flat_model_of blif m).signals ≤ 20000
    → length own.signals + length names ≤ 20000
network_room blif m own names o n le =
    joined _ _ _ _ _ (ap (λ (f : FlatModel). length f.signals) o) (ap (λ (ns : List (List ℕ)). length ns) n) (signals_with blif m) le where
      joined : (a b c d whole : ℕ) → a ≡ c → b ≡ d → whole ≡ c + d → whole ≤ 20000 → a + b ≤ 20000
      joined a b c d whole e f g le = omega (arith, e, f, g, le)
