-- Bits that are known before a model is evaluated: those of clocks, and those of covers that read known bits alone.
use Rattle.std.specs.Prelude.{◌≡◌, ℕ, ◌+◌, ◌&&◌, ◌⊎◌, Bool, true, false, List, length, set, Option, Some, None, is_none, is_some, unwrap_or}
use Rattle.std.specs.List.{list_all}
use Rattle.blif_eval.specs.Plans.{entry_of}
use Rattle.vrt_model.specs.Covers.{cover_bit}
use Rattle.vrt_model.specs.Lists.{Among}
use Rattle.vrt_model.specs.ModelArcs.{IsKnownSignal}
use Rattle.vrt_model.specs.declared.flat_model.Cover.{Cover}
use Rattle.vrt_model.specs.declared.flat_model.FlatModel.{FlatModel}

-- the bit that a table has of a signal, and 0 where it has none
abbrev pub bit_in : List (Option Bool) → ℕ → Bool
bit_in bits s = unwrap_or (entry_of bits s) false

abbrev pub is_entry : List (Option Bool) → ℕ → Bool
is_entry bits s = is_some (entry_of bits s)

abbrev pub all_entries : List (Option Bool) → List ℕ → Bool
all_entries bits signals = list_all (is_entry bits) signals

-- a table has what is known at first, and else only what covers give of what it has
pub record IsSpread (flat : FlatModel) (known bits : List (Option Bool)) : Type 0 where
  pub size : length bits ≡ length flat.signals + 1
  pub kept : (s : ℕ) (v : Bool) → entry_of known s ≡ Some v → entry_of bits s ≡ Some v
  pub sound : (s : ℕ) (v : Bool) → entry_of bits s ≡ Some v → IsKnownSignal flat (entry_of known) s v
  pub right :
      (cover : Cover) (v : Bool) → Among flat.covers cover → entry_of known cover.output ≡ None → entry_of bits cover.output ≡ Some v
      → (all_entries bits cover.inputs ≡ true) × (v ≡ cover_bit (bit_in bits) cover)

-- nothing is to be learned from a cover
abbrev pub IsDone : List (Option Bool) → Cover → Type 0
IsDone bits cover = all_entries bits cover.inputs ≡ true → is_entry bits cover.output ≡ true

-- whether something is to be learned from a cover
abbrev pub teaches : List (Option Bool) → Cover → Bool
teaches bits cover = is_none (entry_of bits cover.output) && all_entries bits cover.inputs

-- the output of a cover became known by what it reads
pub record IsLearned (cover : Cover) (old new : List (Option Bool)) : Type 0 where
  pub open_before : is_entry old cover.output ≡ false
  pub reads : all_entries old cover.inputs ≡ true
  pub list : new ≡ set old cover.output (Some (cover_bit (bit_in old) cover))

-- nothing was to be learned, or the output became known
abbrev pub HasLearned : Cover → List (Option Bool) → List (Option Bool) → Type 0
HasLearned cover old new = ((new ≡ old) × IsDone old cover) ⊎ IsLearned cover old new

-- a table with all that is known
pub record AreKnown (flat : FlatModel) (known bits : List (Option Bool)) : Type 0 where
  pub spread : IsSpread flat known bits
  pub done : (cover : Cover) → Among flat.covers cover → IsDone bits cover
