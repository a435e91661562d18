-- Models without a don't-care network.
use Rattle.std.proofs.Common.{◌≡◌, ℕ, ◌+◌, ◌++◌, List, [], ◌∷◌, codes, length, map, Option, ap, ap₂, refl, ◌∙◌}
use Rattle.std.specs.Prelude.{filter, filter_map, flat_map, option_map}
use Rattle.std.proofs.lemmas.List.{append-nil}
use Rattle.vrt_model.specs.FlatBlif.{cover_signals, flat_model_of, model_at, network_cover, network_names, signal_at, top_model, unrolled_of}
use Rattle.vrt_model.specs.Lists.{distinct, has_name, place_of}
use Rattle.vrt_model.specs.declared.blif.Blif.{Blif}
use Rattle.vrt_model.specs.declared.blif.BlifModel.{BlifModel}
use Rattle.vrt_model.specs.declared.blif.CoverLine.{CoverLine}
use Rattle.vrt_model.specs.declared.flat_model.Cover.{Cover}
use Rattle.vrt_model.specs.declared.flat_model.DontCare.{DontCare}
use Rattle.vrt_model.specs.declared.flat_model.FlatModel.{FlatModel}

-- no name stands in a network that is not there
pub no_names : (m : BlifModel) → m.exdc ≡ [] → network_names m ≡ []
unfolding network_names
no_names m none =
    ap (λ (cs : List CoverLine). filter (λ name. has_name (map (λ (c : CoverLine). c.output) cs) name) (distinct (flat_map cover_signals cs))) none

-- the don't-care bit of an output, by the names that a network drives
abbrev bit_by : Blif → ℕ → ℕ → List (List ℕ) → List ℕ → Option DontCare
bit_by blif m count names name =
    option_map (λ (k : ℕ). let one : DontCare = record { output = signal_at blif (top_model m) name; bit = count + k } in one) (place_of names name)

no_bits : (blif : Blif) (m count : ℕ) (names : List (List ℕ)) → filter_map (bit_by blif m count []) names ≡ []
no_bits blif m count [] = refl
no_bits blif m count (name ∷ names) = no_bits blif m count names

-- nothing stands behind a flat model
nothing_behind : (own : FlatModel) (named : List ℕ → List ℕ) (cover : CoverLine → Cover) (bit : List (List ℕ) → List ℕ → Option DontCare) (outputs names : List (List ℕ)) (covers : List CoverLine)
    → names ≡ [] → covers ≡ [] → filter_map (bit []) outputs ≡ []
    → (let one : FlatModel = record own { signals = own.signals ++ map named names; covers = own.covers ++ map cover covers; dontcares = filter_map (bit names) outputs } in one)
    ≡ record own { dontcares = [] }
nothing_behind own named cover bit outputs names covers n c bits =
    ap₂ (λ (ns : List (List ℕ)) (cs : List CoverLine). let one : FlatModel = record own {
      signals = own.signals ++ map named ns;
      covers = own.covers ++ map cover cs;
      dontcares = filter_map (bit ns) outputs;
    } in one) n c
    ∙ ap₂ (λ (ns : List (List ℕ)) (cs : List Cover). let one : FlatModel = record own { signals = ns; covers = cs; dontcares = filter_map (bit []) outputs } in one)
    (append-nil own.signals) (append-nil own.covers)
    ∙ ap (λ (ds : List DontCare). let one : FlatModel = record own { dontcares = ds } in one) bits

-- so the flat model is what is unrolled of the model
pub own_alone : (blif : Blif) (m : ℕ) → (model_at blif m).exdc ≡ [] → flat_model_of blif m ≡ unrolled_of blif m
unfolding flat_model_of unrolled_of
own_alone blif m none =
    let count = length (unrolled_of blif m).signals in
    nothing_behind (unrolled_of blif m) (λ name. name ++ codes "#dc") (network_cover blif m count) (bit_by blif m count) (model_at blif m).outputs
    (network_names (model_at blif m)) (model_at blif m).exdc (no_names (model_at blif m) none) none (no_bits blif m count (model_at blif m).outputs)

-- and has no don't-care bits
pub no_network : (blif : Blif) (m : ℕ) → (model_at blif m).exdc ≡ [] → (flat_model_of blif m).dontcares ≡ []
unfolding unrolled_of
no_network blif m none = ap (λ (flat : FlatModel). flat.dontcares) (own_alone blif m none)
