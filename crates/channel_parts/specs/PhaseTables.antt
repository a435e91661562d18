-- The known nets of each phase, as tables, and which nets the clocks switch.
use Rattle.std.specs.Prelude.{◌≡◌, ℕ, ◌&&◌, Bool, true, false, not, cond, List, None, Option, Some, is_none, length}
use Rattle.std.specs.List.{list_any}
use Rattle.known_nets.specs.KnownTables.{IsKnownTable, known_at}
use Rattle.vrt_model.specs.Lists.{At}
use Rattle.vrt_model.specs.declared.circuit.Circuit.{Circuit}
use Rattle.vrt_model.specs.declared.rules.Phase.{Phase}

-- the known nets of each phase, in the order of the phases
pub record AreTables (c : Circuit) (phases : List Phase) (tables : List (List (Option Bool))) : Type 0 where
  pub count : length tables ≡ length phases
  pub each : (i : ℕ) (phase : Phase) (table : List (Option Bool)) → At phases i phase → At tables i table → IsKnownTable c phase (known_at table)

-- this bit is known
abbrev pub has_bit : Bool → Option Bool → Bool
has_bit value None = false
has_bit value (Some v) = cond value v (not v)

-- a net is known with a bit in some phase
abbrev pub shows : List (List (Option Bool)) → Bool → ℕ → Bool
shows tables value n = list_any (λ (table : List (Option Bool)). has_bit value (known_at table n)) tables

-- and is not known in some phase
abbrev pub hides : List (List (Option Bool)) → ℕ → Bool
hides tables n = list_any (λ (table : List (Option Bool)). is_none (known_at table n)) tables

-- a net is known in all phases, with both bits
abbrev pub is_switched : List (List (Option Bool)) → ℕ → Bool
is_switched tables n = not (hides tables n) && (shows tables false n && shows tables true n)
