-- The levels of output ports, phase after phase, and the drives that they are.
use Rattle.std.specs.Prelude.{◌≡◌, ◌↔◌, ℕ, suc, ◌<◌, ◌==◌, All, Bool, true, List, Option, None, Some, cond, length}
use Rattle.std.specs.List.{list_any}
use Rattle.drive_levels.specs.NetLevels.{same_level}
use Rattle.drive_levels.specs.PhaseLevels.{ArePhaseLevels, IsLevelBefore, level_in}
use Rattle.drive_levels.specs.declared.table.NetLevels.{NetLevels}
use Rattle.output_levels.specs.PartLevels.{level_at}
use Rattle.vrt_model.specs.Comparison.{CellPort, Comparison}
use Rattle.vrt_model.specs.Facts.{IsAloneInside, IsDriveOf, IsWholeDrive}
use Rattle.vrt_model.specs.Lists.{Among, At, mark_at}
use Rattle.vrt_model.specs.WholeInstances.{OutputAt}
use Rattle.vrt_model.specs.declared.circuit.Circuit.{Circuit}
use Rattle.vrt_model.specs.declared.ids.Net.{Net}
use Rattle.vrt_model.specs.declared.whole.Drive.{Drive}
use Rattle.vrt_model.specs.declared.whole.Drive.TheVariants.{Soft, Level}

-- the net is one of these
abbrev pub is_one_of : List Net → ℕ → Bool
is_one_of nets n = list_any (λ (m : Net). m.0 == n) nets

-- each of these nets is asked for
abbrev pub AreAsked : List Net → NetLevels → Type 0
AreAsked nets t = (n : Net) → Among nets n → mark_at t.asked.items n.0 ≡ true

-- ---- phase after phase

-- the level in several phases, by that in those before the last and that in the last, which may be the first
abbrev pub joined_level : Bool → Option ℕ → Option ℕ → Option ℕ
joined_level first before here = cond first here (same_level before here)

-- one phase more, of which these are the levels
pub record AreJoined (c : Circuit) (t : NetLevels) (nets : List Net) (first : Bool) (old new : List (Option ℕ)) : Type 0 where
  pub len : length new ≡ length old
  pub each : (j : ℕ) (n : Net) → At nets j n → level_at new j ≡ joined_level first (level_at old j) (level_in c t n.0)

-- at each place of a list of nets the level that the net has in each phase before one
abbrev pub ArePortLevels : Comparison → ℕ → List Net → List (Option ℕ) → Type 0
ArePortLevels k upto nets levels = (j : ℕ) (n : Net) → At nets j n → IsLevelBefore k upto n.0 (level_at levels j)

-- The law: what is joined in the first phases are their levels.
abbrev pub LevelsAreJoined : Type 0
LevelsAreJoined =
    (k : Comparison) (phase : ℕ) (t : NetLevels) (nets : List Net) (old new : List (Option ℕ)) → ArePhaseLevels k phase t → AreAsked nets t → All (λ (n : Net). n.0 < length k.circuit.nets) nets
    → (0 < phase → ArePortLevels k phase nets old) → AreJoined k.circuit t nets (phase == 0) old new → ArePortLevels k (suc phase) nets new

-- ---- drives

-- the drive of a whole output, where one has it; else a level as a drive
abbrev pub drive_over : Option Drive → Option ℕ → Drive
drive_over (Some drive) level = drive
drive_over None (Some level) = Level level
drive_over None None = Soft

-- of a port that is alone in all phases; else soft
abbrev pub drive_by : Bool → Option Drive → Option ℕ → Drive
drive_by lone whole level = cond lone (drive_over whole level) Soft

-- this is the drive of a whole output at the port's net that meets gates alone, or there is none
abbrev pub IsWholeOutput : Comparison → List OutputAt → CellPort → Option Drive → Type 0
IsWholeOutput k outputs port (Some drive) = IsWholeDrive k outputs port drive
IsWholeOutput k outputs port None = (drive : Drive) → ¬ IsWholeDrive k outputs port drive

-- what is found of an output port: whether it is alone inside the flat circuit; over the checked one the drive of such a whole
-- output; and where there is none, the level that its net has in all phases
pub record IsFoundPort (flat k : Comparison) (outputs : List OutputAt) (port : CellPort) (lone : Bool) (whole : Option Drive) (level : Option ℕ) : Type 0 where
  pub alone : (lone ≡ true) ↔ IsAloneInside flat port
  pub output : IsWholeOutput k outputs port whole
  pub joined : whole ≡ None → IsLevelBefore k (length k.rules.phases) port.net level

-- The law: the drive by what is found is what the facts of the cell say of the port.
abbrev pub FoundDrivesAreTold : Type 0
FoundDrivesAreTold =
    (flat k : Comparison) (outputs : List OutputAt) (port : CellPort) (lone : Bool) (whole : Option Drive) (level : Option ℕ) → IsFoundPort flat k outputs port lone whole level
    → IsDriveOf flat k outputs port (drive_by lone whole level)
