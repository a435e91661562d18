-- An output of a flat model has at most one don't-care bit.
use Rattle.std.proofs.Common.{◌≡◌, ◌+◌, [], ℕ, List, true, length, Option, Some, None, option_map, refl, ap, sym, ◌∙◌, arith}
use Rattle.std.specs.Prelude.{slice_get, unwrap_or}
use Rattle.std.proofs.lemmas.Option.{same_Some}
use Rattle.vrt_model.proofs.Lists.{among_filter_map}
use Rattle.vrt_model.specs.FlatBlif.{dontcare_of, flat_model_of, inner_signals, model_at, network_names, signal_at, signals_of, top_model, unrolled_of}
use Rattle.vrt_model.specs.FlatModels.{HasOneBitEach}
use Rattle.vrt_model.specs.Lists.{has_name, place_of}
use Rattle.vrt_model.specs.declared.blif.Blif.{Blif}
use Rattle.vrt_model.specs.declared.flat_model.DontCare.{DontCare}
use Rattle.names.proofs.FilterLaws.{filter_new}
use Rattle.names.proofs.PlaceLaws.{placed_at}
use Rattle.blif_checks.specs.Mentions.{number_among}
use Rattle.blif_flat.proofs.OneDriverCounts.{place_number}
use Rattle.blif_flat.proofs.RangeLaws.{output_named}

-- names of one number are one
number_apart : (names : List (List ℕ)) (n k : List ℕ) → has_name names n ≡ true → has_name names k ≡ true → unwrap_or (place_of names n) 0 ≡ unwrap_or (place_of names k) 0 → n ≡ k
number_apart names n k a b e =
    let p = place_number names n a in
    let q = place_number names k b in
    let same : number_among names n ≡ number_among names k = sym (ap (λ (o : Option ℕ). unwrap_or o 0) p) ∙ e ∙ ap (λ (o : Option ℕ). unwrap_or o 0) q in
    same_Some n k (sym (placed_at names n (number_among names n) p) ∙ ap (λ (i : ℕ). slice_get names i) same ∙ placed_at names k (number_among names k) q)

zero_more : (n : ℕ) → 0 + n ≡ n
zero_more n = omega arith

-- so are signals of a model
signal_apart : (blif : Blif) (m : ℕ) (n k : List ℕ) → has_name (signals_of (model_at blif m)) n ≡ true → has_name (signals_of (model_at blif m)) k ≡ true
    → signal_at blif (top_model m) n ≡ signal_at blif (top_model m) k → n ≡ k
signal_apart blif m n k a b e =
    let own = filter_new (signals_of (model_at blif m)) in
    number_apart (inner_signals (model_at blif m) []) n k (ap (λ (xs : List (List ℕ)). has_name xs n) own ∙ a) (ap (λ (xs : List (List ℕ)). has_name xs k) own ∙ b)
    (sym (zero_more (unwrap_or (place_of (inner_signals (model_at blif m) []) n) 0)) ∙ e ∙ zero_more (unwrap_or (place_of (inner_signals (model_at blif m) []) k) 0))

one_bit : (blif : Blif) (m count : ℕ) (n k : List ℕ) (d e : DontCare) → has_name (signals_of (model_at blif m)) n ≡ true → has_name (signals_of (model_at blif m)) k ≡ true
    → dontcare_of blif m count n ≡ Some d → dontcare_of blif m count k ≡ Some e → d.output ≡ e.output → d.bit ≡ e.bit
one_bit blif m count n k d e a b x y same = by_places (place_of (network_names (model_at blif m)) n) (place_of (network_names (model_at blif m)) k) refl refl x y where
  told : List ℕ → Option ℕ → Option DontCare
  told name o = option_map (λ (j : ℕ). let one : DontCare = record { output = signal_at blif (top_model m) name; bit = count + j } in one) o

  by_places : (o p : Option ℕ) → place_of (network_names (model_at blif m)) n ≡ o → place_of (network_names (model_at blif m)) k ≡ p → told n o ≡ Some d → told k p ≡ Some e → d.bit ≡ e.bit
  by_places None p here there x y = cc
  by_places (Some i) None here there x y = cc
  by_places (Some i) (Some j) here there x y =
      let one : DontCare = record { output = signal_at blif (top_model m) n; bit = count + i } in
      let two : DontCare = record { output = signal_at blif (top_model m) k; bit = count + j } in
      let first : one ≡ d = same_Some one d x in
      let second : two ≡ e = same_Some two e y in
      let name : n ≡ k = signal_apart blif m n k a b (ap (λ (c : DontCare). c.output) first ∙ same ∙ sym (ap (λ (c : DontCare). c.output) second)) in
      let place : i ≡ j = same_Some i j (sym here ∙ ap (λ (x : List ℕ). place_of (network_names (model_at blif m)) x) name ∙ there) in
      sym (ap (λ (c : DontCare). c.bit) first) ∙ ap (λ (x : ℕ). count + x) place ∙ ap (λ (c : DontCare). c.bit) second

pub one_bit_each : (blif : Blif) (m : ℕ) → HasOneBitEach (flat_model_of blif m)
unfolding flat_model_of
one_bit_each blif m d e a b same =
    let count = length (unrolled_of blif m).signals in
    let x = among_filter_map (dontcare_of blif m count) (model_at blif m).outputs d a in
    let y = among_filter_map (dontcare_of blif m count) (model_at blif m).outputs e b in
    one_bit blif m count x.0 y.0 d e (output_named (model_at blif m) x.0 x.1) (output_named (model_at blif m) y.0 y.1) x.2 y.2 same
