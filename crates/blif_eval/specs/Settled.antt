-- The signals and elements of a model evaluated one after the other.
use Rattle.std.specs.Prelude.{◌≡◌, ℕ, ◌+◌, ◌<◌, Bool, false, not, cond, List, length, get_or, Option, Some, None, option_map, slice_get, unwrap_or}
use Rattle.bdd_core.specs.Diagram.{Function, Valuation}
use Rattle.bdd_core.specs.Store.{Diagrams, IsSpan}
use Rattle.bdd_core.specs.Words.{IsApart, IsFilled, shows, word_at}
use Rattle.blif_eval.specs.Drivers.{node_count}
use Rattle.blif_eval.specs.declared.driver_table.Driver.{Driver}
use Rattle.blif_eval.specs.declared.driver_table.Driver.TheVariants.{Given, Covered, Stored, Element}
use Rattle.blif_eval.specs.declared.driver_table.Storage.{Storage}
use Rattle.node_pool.specs.declared.region.Span.{Span}
use Rattle.vrt_model.specs.Covers.{cover_bit}
use Rattle.vrt_model.specs.Elements.{element_names}
use Rattle.vrt_model.specs.FlatModels.{IsControl}
use Rattle.vrt_model.specs.Lists.{At}
use Rattle.vrt_model.specs.declared.flat_model.Cover.{Cover}
use Rattle.vrt_model.specs.declared.flat_model.FlatModel.{FlatModel}

-- the bits of the signals at a valuation, by the handles in a span
abbrev pub bits_in : Diagrams → Span → Valuation → ℕ → Bool
bits_in d span v s = shows d span s v

-- ---- bits that follow from bits before

-- the bit of a cover at a place
abbrev pub cover_value : List Cover → ℕ → (ℕ → Bool) → Bool
cover_value covers place bits = unwrap_or (option_map (cover_bit bits) (slice_get covers place)) false

-- the bit at a control: that of a signal, or of the default clock
abbrev pub control_value : (ℕ → Bool) → Bool → Option ℕ → Bool
control_value bits default_clock control = unwrap_or (option_map bits control) default_clock

-- what an element that opens at this bit of its control stores
abbrev pub stored : Bool → Bool → Bool → Bool → Bool
stored open_at control source held = cond (cond open_at control (not control)) source held

-- the bit of a number by its driver and by the bits of all numbers
abbrev pub value_by : FlatModel → Driver → ℕ → (ℕ → Bool) → Bool → (ℕ → Bool) → (ℕ → Bool) → Bool
value_by flat Given n bits default_clock held inputs = inputs n
value_by flat (Covered place) n bits default_clock held inputs = cover_value flat.covers place bits
value_by flat (Stored number) n bits default_clock held inputs = bits number
value_by flat (Element storage) n bits default_clock held inputs =
    stored storage.open_at (control_value bits default_clock storage.control) (bits storage.source) (held storage.element)

abbrev pub driver_at : List Driver → ℕ → Driver
driver_at drivers n = get_or drivers n Given

abbrev pub value_of : FlatModel → List Driver → Bool → (ℕ → Bool) → (ℕ → Bool) → (ℕ → Bool) → ℕ → Bool
value_of flat drivers default_clock held inputs bits n = value_by flat (driver_at drivers n) n bits default_clock held inputs

-- the numbers before a place have the bits that follow from all bits
abbrev pub AreFixed : List ℕ → ((ℕ → Bool) → ℕ → Bool) → ℕ → (ℕ → Bool) → Type 0
AreFixed steps value k bits = (j n : ℕ) → j < k → At steps j n → bits n ≡ value bits n

abbrev pub Agree : List ℕ → ℕ → (ℕ → Bool) → (ℕ → Bool) → Type 0
Agree steps k bits others = (j n : ℕ) → j < k → At steps j n → bits n ≡ others n

-- the numbers of an element are those of a model
pub record HasRange (flat : FlatModel) (storage : Storage) : Type 0 where
  pub element : storage.element < length (element_names flat)
  pub source : storage.source < node_count flat
  pub control : IsControl (length flat.signals) storage.control

-- ---- in a store

-- live handles of the inputs and of the elements and, apart from them, one for each signal and each element
pub record HasStepSpans (flat : FlatModel) (inputs held out : Span) (d : Diagrams) : Type 0 where
  pub inputs_span : IsSpan d inputs
  pub inputs_len : inputs.len ≡ length flat.signals + 1
  pub inputs_live : IsFilled d inputs
  pub held_span : IsSpan d held
  pub held_len : held.len ≡ length (element_names flat)
  pub held_live : IsFilled d held
  pub out_span : IsSpan d out
  pub out_len : out.len ≡ node_count flat
  pub out_live : IsFilled d out
  pub inputs_apart : IsApart inputs out
  pub held_apart : IsApart held out

-- the handle of a control: that of a signal, or the one of the default clock
abbrev pub control_word : Diagrams → ℕ → Span → Span → Option ℕ → ℕ
control_word d signals inputs out None = word_at d inputs signals
control_word d signals inputs out (Some s) = word_at d out s

-- the function of a number by its driver and by the words of a store
abbrev pub function_by : Diagrams → FlatModel → Span → Span → Span → ℕ → Driver → Function
function_by d flat inputs held out n driver = λ v.
    value_by flat driver n (bits_in d out v) (shows d inputs (length flat.signals) v) (λ e. shows d held e v) (λ s. shows d inputs s v)

-- the bits that follow from some bits, at a valuation, where the inputs, the default clock and the elements have those of a store
abbrev pub value_at : Diagrams → FlatModel → List Driver → Span → Span → Valuation → (ℕ → Bool) → ℕ → Bool
value_at d flat drivers inputs held v =
    value_of flat drivers (shows d inputs (length flat.signals) v) (λ e. shows d held e v) (λ s. shows d inputs s v)

-- the function of a number, by the words of a store
abbrev pub function_at : Diagrams → FlatModel → List Driver → Span → Span → Span → ℕ → Function
function_at d flat drivers inputs held out n = λ v. value_at d flat drivers inputs held v (bits_in d out v) n

-- the word of a number took the bit by the words before
abbrev pub TakesValue : FlatModel → List Driver → Span → Span → Span → Diagrams → Diagrams → ℕ → Type 0
TakesValue flat drivers inputs held out old new n = (v : Valuation) → shows new out n v ≡ function_at old flat drivers inputs held out n v

-- the words of the numbers before a place have the bits by the words now, where the inputs had those of before
abbrev pub AreSettled : FlatModel → List Driver → List ℕ → Span → Span → Span → Diagrams → Diagrams → ℕ → Type 0
AreSettled flat drivers steps inputs held out old new k = (v : Valuation) → AreFixed steps (value_at old flat drivers inputs held v) k (bits_in new out v)
