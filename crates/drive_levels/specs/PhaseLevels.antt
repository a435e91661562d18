-- The level that a net has in a phase of a comparison, and in several, in the bare and in the kept circuit; and tables of such levels.
use Rattle.std.specs.Prelude.{◌≡◌, ◌↔◌, ℕ, ◌<◌, Bool, true, List, Option, Some, length}
use Rattle.drive_levels.specs.NetLevels.{level_by}
use Rattle.drive_levels.specs.declared.table.NetLevels.{NetLevels}
use Rattle.vrt_model.specs.Comparison.{Comparison, is_observed, phase_at}
use Rattle.vrt_model.specs.Constraints.{Meets}
use Rattle.vrt_model.specs.Faults.{Solves}
use Rattle.vrt_model.specs.Held.{setting_of}
use Rattle.vrt_model.specs.Lists.{mark_at}
use Rattle.vrt_model.specs.Reading.{Partial}
use Rattle.vrt_model.specs.Response.{IsStrength}
use Rattle.vrt_model.specs.Solution.{Agrees}
use Rattle.vrt_model.specs.State.{IsState, State, network_of}
use Rattle.vrt_model.specs.declared.circuit.Circuit.{Circuit}

-- ---- one net

-- the net has this strength at every valuation that meets the constraints of the phase, in the bare and in the kept circuit
abbrev pub HasLevelAt : Comparison → ℕ → ℕ → ℕ → Type 0
HasLevelAt k phase n level =
    (bits : List Bool) (a : Partial) (s : State) (which : Bool) → Meets k phase bits → Solves k phase (setting_of k phase bits) a
    → IsState k.circuit (phase_at k.rules phase) (setting_of k phase bits).inputs s → Agrees (is_observed k phase) a s.reading
    → IsStrength (network_of k.circuit which (setting_of k phase bits).held s) n level

-- this is exactly the level that the net has there, or it has none
abbrev pub IsLevelAt : Comparison → ℕ → ℕ → Option ℕ → Type 0
IsLevelAt k phase n found = (level : ℕ) → HasLevelAt k phase n level ↔ (found ≡ Some level)

-- ---- several phases

-- the net has this strength in each phase before one
abbrev pub HasLevelBefore : Comparison → ℕ → ℕ → ℕ → Type 0
HasLevelBefore k upto n level = (phase : ℕ) → phase < upto → HasLevelAt k phase n level

-- this is exactly the level that the net has in all of them, or it has none
abbrev pub IsLevelBefore : Comparison → ℕ → ℕ → Option ℕ → Type 0
IsLevelBefore k upto n found = (level : ℕ) → HasLevelBefore k upto n level ↔ (found ≡ Some level)

-- ---- tables

-- each table has so many places
pub record HasTables (count : ℕ) (t : NetLevels) : Type 0 where
  pub asked : length t.asked.items ≡ count
  pub bare : length t.bare.items ≡ count
  pub kept : length t.kept.items ≡ count

-- the same nets are asked for, and each table has as many places as before
pub record KeepsTables (old new : NetLevels) : Type 0 where
  pub asked : new.asked.items ≡ old.asked.items
  pub bare : length new.bare.items ≡ length old.bare.items
  pub kept : length new.kept.items ≡ length old.kept.items

-- what the tables say of a net
abbrev pub level_in : Circuit → NetLevels → ℕ → Option ℕ
level_in c t n = level_by c t.bare.items t.kept.items n

-- of each net that is asked for this is the level in the phase
abbrev pub ArePhaseLevels : Comparison → ℕ → NetLevels → Type 0
ArePhaseLevels k phase t =
    (n : ℕ) → n < length k.circuit.nets → mark_at t.asked.items n ≡ true → IsLevelAt k phase n (level_in k.circuit t n)
