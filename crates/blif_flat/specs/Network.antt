-- The don't-care network of a model behind what is unrolled of it, as the code makes it.
use Rattle.std.specs.Prelude.{ℕ, ◌+◌, ◌++◌, codes, List, map, filter_map, length, sum_by, Option, option_map, unwrap_or}
use Rattle.vrt_model.specs.Lists.{place_of}
use Rattle.vrt_model.specs.declared.blif.BlifModel.{BlifModel}
use Rattle.vrt_model.specs.declared.blif.CoverLine.{CoverLine}
use Rattle.vrt_model.specs.declared.flat_model.Cover.{Cover}
use Rattle.vrt_model.specs.declared.flat_model.DontCare.{DontCare}
use Rattle.vrt_model.specs.declared.flat_model.FlatModel.{FlatModel}

-- a name in a network: one that it drives stands behind so many signals, and another has the number that a function gives
abbrev pub number_behind : (List ℕ → ℕ) → List (List ℕ) → ℕ → List ℕ → ℕ
number_behind own names count name = unwrap_or (option_map (λ (k : ℕ). count + k) (place_of names name)) (own name)

abbrev pub cover_behind : (List ℕ → ℕ) → List (List ℕ) → ℕ → CoverLine → Cover
cover_behind own names count c = record {
  inputs = map (number_behind own names count) c.inputs;
  output = number_behind own names count c.output;
  on = c.on;
  rows = c.rows;
}

abbrev pub dontcare_behind : (List ℕ → ℕ) → List (List ℕ) → ℕ → List ℕ → Option DontCare
dontcare_behind own names count name =
    option_map (λ (k : ℕ). let one : DontCare = record { output = own name; bit = count + k } in one) (place_of names name)

-- the name of a signal of a network
abbrev pub dc_name : List ℕ → List ℕ
dc_name name = name ++ codes "#dc"

-- a flat model with the network of its model behind it
abbrev pub with_network : (List ℕ → ℕ) → List (List ℕ) → BlifModel → FlatModel → FlatModel
with_network own names m flat = record flat {
  signals = flat.signals ++ map dc_name names;
  covers = flat.covers ++ map (cover_behind own names (length flat.signals)) m.exdc;
  dontcares = filter_map (dontcare_behind own names (length flat.signals)) m.outputs;
}

-- how many rows covers have
abbrev pub rows_of : List CoverLine → ℕ
rows_of covers = sum_by (λ (c : CoverLine). length c.rows) covers
