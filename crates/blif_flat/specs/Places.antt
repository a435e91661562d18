-- Models at their places in an unrolled one, as the code keeps them.
use Rattle.std.specs.Prelude.{◌≡◌, ℕ, ◌+◌, ◌≤◌, List, ◌++◌, map, filter, not, flat_map, sum_by, length, option_map, unwrap_or, slice_get, decimal}
use Rattle.vrt_model.specs.FlatBlif.{ModelPlace, flat_cover, flat_latch, flat_signals_at, formals, inner_count, inner_signals, model_at, model_numbered, models_in, signal_at, sub_signals, subs_from}
use Rattle.vrt_model.specs.Lists.{has_name, path_name, place_of}
use Rattle.vrt_model.specs.declared.blif.Blif.{Blif}
use Rattle.vrt_model.specs.declared.blif.BlifModel.{BlifModel}
use Rattle.vrt_model.specs.declared.blif.CoverLine.{CoverLine}
use Rattle.vrt_model.specs.declared.blif.LatchKind.TheVariants.{Re}
use Rattle.vrt_model.specs.declared.blif.LatchLine.{LatchLine}
use Rattle.vrt_model.specs.declared.blif.SubLine.{SubLine}
use Rattle.vrt_model.specs.declared.flat_model.Cover.{Cover}
use Rattle.vrt_model.specs.declared.flat_model.FlatLatch.{FlatLatch}
use Rattle.blif_flat.specs.declared.flat.Interface.{Interface}
use Rattle.blif_flat.specs.declared.places.Place.{Place}
use Rattle.blif_flat.specs.declared.unroll.Parts.{Parts}

-- ---- one place

abbrev pub place_in : Place → ModelPlace
place_in p = record { model = p.model; path = p.path; tied = p.tied; ties = p.ties; base = p.base }

-- the flat signal of a name
abbrev pub number_in : Place → List ℕ → ℕ
number_in p name =
    unwrap_or (option_map (λ (k : ℕ). unwrap_or (slice_get p.ties k) 0) (place_of p.tied name)) (p.base + unwrap_or (place_of p.inner name) 0)

abbrev pub own_names : Place → List (List ℕ)
own_names p = map (path_name p.path) p.inner

abbrev pub cover_in : Place → CoverLine → Cover
cover_in p c = record { inputs = map (number_in p) c.inputs; output = number_in p c.output; on = c.on; rows = c.rows }

abbrev pub latch_in : Place → LatchLine → FlatLatch
latch_in p l = record { input = number_in p l.input; output = number_in p l.output; kind = unwrap_or l.kind Re; control = option_map (number_in p) l.control }

-- its own signals are those of its model that are not tied
abbrev pub IsPlace : Blif → Place → Type 0
IsPlace blif p = p.inner ≡ inner_signals (model_at blif p.model) p.tied

-- the numbers of its signals are within the limit
abbrev pub HasRoom : Place → Type 0
HasRoom p = p.base + length p.inner ≤ 20000

-- a name that is an input and a clock is listed among the inputs
pub record IsInterface (p : Place) (m : BlifModel) (interface : Interface) : Type 0 where
  pub inputs : interface.inputs ≡ map (number_in p) m.inputs
  pub clocks : interface.clocks ≡ map (number_in p) (filter (λ name. not (has_name m.inputs name)) m.clocks)
  pub outputs : interface.outputs ≡ map (number_in p) m.outputs

-- a sub-model at its place
abbrev pub placed : Blif → ModelPlace → ℕ → ℕ → SubLine → ModelPlace
placed blif at number base s = record {
  model = model_numbered blif s.model;
  path = path_name at.path (decimal number);
  tied = formals s;
  ties = map (signal_at blif at) (sub_signals s);
  base = base;
}

-- ---- what is unrolled

-- a place and all places in it, at most so deep, and how many signals they have of their own
unfoldable pub places_of : Blif → ℕ → ModelPlace → List ModelPlace
places_of blif depth at = models_in blif depth at

unfoldable pub size_of : Blif → ℕ → ModelPlace → ℕ
size_of blif depth at = inner_count blif depth (model_at blif at.model) at.tied

-- the parts with those of one place
pub record HasOwn (p : Place) (m : BlifModel) (old new : Parts) : Type 0 where
  pub signals : new.signals ≡ old.signals ++ own_names p
  pub covers : new.covers ≡ old.covers ++ map (cover_in p) m.covers
  pub latches : new.latches ≡ old.latches ++ map (latch_in p) m.latches

abbrev pub covers_at : Blif → ModelPlace → List Cover
covers_at blif at = map (flat_cover blif at) (model_at blif at.model).covers

abbrev pub latches_at : Blif → ModelPlace → List FlatLatch
latches_at blif at = map (flat_latch blif at) (model_at blif at.model).latches

-- the parts with those of some places
abbrev pub with_places : Blif → List ModelPlace → Parts → Parts
with_places blif places parts = record {
  signals = parts.signals ++ flat_map (flat_signals_at blif) places;
  covers = parts.covers ++ flat_map (covers_at blif) places;
  latches = parts.latches ++ flat_map (latches_at blif) places;
}

-- the places in sub-models from one on, so deep below
abbrev pub left_over : Blif → ModelPlace → ℕ → ℕ → ℕ → List SubLine → List ModelPlace
left_over blif at depth number base subs = flat_map (models_in blif depth) (subs_from blif at depth number base subs)

-- how many signals sub-models have of their own, so deep below
abbrev pub signals_left : Blif → ℕ → List SubLine → ℕ
signals_left blif depth subs = sum_by (λ (s : SubLine). inner_count blif depth (model_at blif (model_numbered blif s.model)) (formals s)) subs

-- the parts, and with them those of the sub-models that are left, are those at the end, and there is room for them
pub record IsUnderway (blif : Blif) (at : ModelPlace) (depth number : ℕ) (subs : List SubLine) (parts end : Parts) : Type 0 where
  pub whole : with_places blif (left_over blif at depth number (length parts.signals) subs) parts ≡ end
  pub room : length parts.signals + signals_left blif depth subs ≤ 20000
