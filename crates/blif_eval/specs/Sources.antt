-- From which numbers arcs lead to each signal and each element of a model.
use Rattle.std.specs.Prelude.{ℕ, ◌++◌, ◌∷◌, Bool, false, not, cond, List, [], length, map, option_map, Option, Some, None, slice_get, unwrap_or}
use Rattle.blif_eval.specs.Plans.{entry_of}
use Rattle.blif_eval.specs.declared.driver_table.Driver.{Driver}
use Rattle.blif_eval.specs.declared.driver_table.Driver.TheVariants.{Given, Covered, Stored, Element}
use Rattle.blif_eval.specs.declared.driver_table.Storage.{Storage}
use Rattle.vrt_model.specs.declared.flat_model.Cover.{Cover}
use Rattle.vrt_model.specs.declared.flat_model.FlatModel.{FlatModel}

-- the inputs of the cover at a place, none where there is no cover
abbrev pub inputs_at : List Cover → ℕ → List ℕ
inputs_at covers place = unwrap_or (option_map (λ (c : Cover). c.inputs) (slice_get covers place)) []

-- the place of a control in a table of bits; the default clock's bit stands behind those of the signals
abbrev pub control_place : Option ℕ → ℕ → ℕ
control_place control signals = unwrap_or control signals

-- whether a control with this bit, if it is known, keeps an element shut that opens at the other
abbrev pub shuts : Option Bool → Bool → Bool
shuts None open_at = false
shuts (Some bit) open_at = cond open_at (not bit) bit

abbrev pub is_shut : List (Option Bool) → ℕ → Storage → Bool
is_shut bits signals storage = shuts (entry_of bits (control_place storage.control signals)) storage.open_at

abbrev pub control_list : Option ℕ → List ℕ
control_list None = []
control_list (Some signal) = signal ∷ []

-- what an element takes in, unless it is shut, and its control
abbrev pub element_sources : Storage → Bool → List ℕ
element_sources storage shut = cond shut [] (storage.source ∷ []) ++ control_list storage.control

abbrev pub sources_by : FlatModel → List (Option Bool) → Driver → List ℕ
sources_by flat bits Given = []
sources_by flat bits (Covered place) = inputs_at flat.covers place
sources_by flat bits (Stored number) = number ∷ []
sources_by flat bits (Element storage) = element_sources storage (is_shut bits (length flat.signals) storage)

-- for each signal and each element, the numbers from which arcs lead to it
abbrev pub graph_by : FlatModel → List (Option Bool) → List Driver → List (List ℕ)
graph_by flat bits drivers = map (sources_by flat bits) drivers
