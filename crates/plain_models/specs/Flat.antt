-- A model of covers alone that stands alone: whether it can be unrolled, and its flat form.
use Rattle.std.specs.Prelude.{◌≡◌, ℕ, true, List, [], ◌∷◌, ◌++◌, bytes_eq, flat_map, map, unwrap_or}
use Rattle.plain_models.specs.Texts.{PlainCover, PlainModel, alone}
use Rattle.vrt_model.specs.FlatBlif.{flat_model_of}
use Rattle.vrt_model.specs.Inputs.{AllApart}
use Rattle.vrt_model.specs.Lists.{distinct, has_name, place_of}
use Rattle.vrt_model.specs.Models.{AreModels}
use Rattle.vrt_model.specs.declared.flat_model.Cover.{Cover}
use Rattle.vrt_model.specs.declared.flat_model.FlatModel.{FlatModel}

-- ---- drivers

-- what is driven: the inputs, the clocks, and what covers give
abbrev pub driven_names : PlainModel → List (List ℕ)
driven_names m = m.inputs ++ m.clocks ++ map (λ (c : PlainCover). c.output) m.covers

-- what is used: what covers read, and the outputs
abbrev pub used_names : PlainModel → List (List ℕ)
used_names m = flat_map (λ (c : PlainCover). c.inputs) m.covers ++ m.outputs

-- each signal has one driver: what is driven has different names, and what is used is among them
pub record HasDrivers (m : PlainModel) : Type 0 where
  pub apart : AllApart bytes_eq (driven_names m)
  pub each : (name : List ℕ) → has_name (used_names m) name ≡ true → has_name (driven_names m) name ≡ true

-- ---- the flat form

-- the signals: those of the interface, then by first mention in the covers
abbrev pub signal_names : PlainModel → List (List ℕ)
signal_names m = distinct (m.inputs ++ m.clocks ++ m.outputs ++ flat_map (λ (c : PlainCover). c.inputs ++ c.output ∷ []) m.covers)

-- the number of a signal
abbrev pub number_in : PlainModel → List ℕ → ℕ
number_in m name = unwrap_or (place_of (signal_names m) name) 0

-- a cover between numbers of signals
abbrev pub numbered_cover : (List ℕ → ℕ) → PlainCover → Cover
numbered_cover number c = record { inputs = map number c.inputs; output = number c.output; on = true; rows = c.rows }

-- the interface and the covers, by numbers of signals
abbrev pub flat_form : PlainModel → FlatModel
flat_form m = record {
  signals = signal_names m;
  inputs = map (number_in m) m.inputs;
  clocks = map (number_in m) m.clocks;
  outputs = map (number_in m) m.outputs;
  covers = map (numbered_cover (number_in m)) m.covers;
  latches = [];
  dontcares = [];
}

-- ---- the laws

-- The law: a model each signal of which has one driver can be unrolled.
abbrev pub DrivenModelsAreGood : Type 0
DrivenModelsAreGood = (m : PlainModel) → HasDrivers m → AreModels (alone m)

-- The law: this is its flat form.
abbrev pub DrivenModelsAreFlat : Type 0
DrivenModelsAreFlat = (m : PlainModel) → HasDrivers m → flat_model_of (alone m) 0 ≡ flat_form m
