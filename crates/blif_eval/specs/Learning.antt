-- An order in which the bits of signals are learned from covers, each behind what it hangs on.
use Rattle.std.specs.Prelude.{◌≡◌, ℕ, ◌<◌, ◌⊎◌, Bool, true, false, cond, List, [], map, Option, option_map, slice_get, unwrap_or}
use Rattle.blif_eval.specs.Drivers.{node_count}
use Rattle.blif_eval.specs.KnownBits.{IsDone, IsLearned, IsSpread, is_entry}
use Rattle.blif_eval.specs.Plans.{IsBefore}
use Rattle.blif_eval.specs.declared.driver_table.Driver.{Driver}
use Rattle.blif_eval.specs.declared.driver_table.Driver.TheVariants.{Given, Covered, Stored, Element}
use Rattle.vrt_model.specs.Lists.{At, Among}
use Rattle.vrt_model.specs.declared.flat_model.Cover.{Cover}
use Rattle.vrt_model.specs.declared.flat_model.FlatModel.{FlatModel}

-- ---- what is awaited

-- a cover awaits its inputs, but nothing where its output is known at first
abbrev pub awaited : List (Option Bool) → Cover → List ℕ
awaited known cover = cond (is_entry known cover.output) [] cover.inputs

abbrev pub awaited_at : List Cover → List (Option Bool) → ℕ → List ℕ
awaited_at covers known place = unwrap_or (option_map (awaited known) (slice_get covers place)) []

abbrev pub awaited_by : FlatModel → List (Option Bool) → Driver → List ℕ
awaited_by flat known Given = []
awaited_by flat known (Covered place) = awaited_at flat.covers known place
awaited_by flat known (Stored number) = []
awaited_by flat known (Element storage) = []

-- for each signal and each element the signals that it awaits
abbrev pub awaiting : FlatModel → List (Option Bool) → List Driver → List (List ℕ)
awaiting flat known drivers = map (awaited_by flat known) drivers

-- ---- the order

-- no number stands twice; the output of a cover stands behind what the cover reads, unless it is known at first; and where it
-- does not stand, the cover reads what neither stands nor is known at first
pub record IsLearningOrder (flat : FlatModel) (known : List (Option Bool)) (steps : List ℕ) : Type 0 where
  pub once : (i j n : ℕ) → At steps i n → At steps j n → i ≡ j
  pub below : (n : ℕ) → Among steps n → n < node_count flat
  pub behind :
      (cover : Cover) (k from : ℕ) → Among flat.covers cover → is_entry known cover.output ≡ false → At steps k cover.output → Among cover.inputs from
      → IsBefore steps k from
  pub whole :
      (cover : Cover) → Among flat.covers cover → is_entry known cover.output ≡ false
      → Among steps cover.output ⊎ ((from : ℕ) × Among cover.inputs from × ¬ Among steps from × (is_entry known from ≡ false))

-- ---- what is learned

-- nothing was to be learned of a number with this driver, or its bit became known by the cover that drives it
abbrev pub HasLearnedBy : FlatModel → Driver → List (Option Bool) → List (Option Bool) → Type 0
HasLearnedBy flat driver old new =
    ((new ≡ old) × ((place : ℕ) (cover : Cover) → driver ≡ Covered place → At flat.covers place cover → IsDone old cover))
    ⊎ ((place : ℕ) × (cover : Cover) × (driver ≡ Covered place) × At flat.covers place cover × IsLearned cover old new)

-- what so many numbers of an order have taught: nothing else is known, and nothing more is to be learned from their covers
pub record IsLearning (flat : FlatModel) (known : List (Option Bool)) (steps : List ℕ) (upto : ℕ) (bits : List (Option Bool)) : Type 0 where
  pub spread : IsSpread flat known bits
  pub later : (n : ℕ) → is_entry bits n ≡ true → (is_entry known n ≡ true) ⊎ IsBefore steps upto n
  pub done : (k : ℕ) (cover : Cover) → k < upto → At steps k cover.output → Among flat.covers cover → IsDone bits cover
