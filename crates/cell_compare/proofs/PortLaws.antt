-- The levels of output ports, phase after phase, and of no ports.
use Rattle.std.proofs.Common.{◌≡◌, ℕ, ◌+◌, ◌<◌, Bool, true, List, Option, Some, None, length, arith, ap, refl, sym, subst, ◌∙◌}
use Rattle.std.specs.Prelude.{◌==◌, All}
use Rattle.cell_compare.specs.Ports.{TellsPhaseLevels, TellsPorts}
use Rattle.cell_compare.specs.Phases.{IsStop}
use Rattle.drive_levels.proofs.PortLaws.{levels_joined}
use Rattle.drive_levels.specs.PhaseLevels.{ArePhaseLevels, HasTables, KeepsTables}
use Rattle.drive_levels.specs.PortLevels.{AreAsked, AreJoined, ArePortLevels}
use Rattle.drive_levels.specs.declared.table.NetLevels.{NetLevels}
use Rattle.drive_levels.specs.declared.table.PortLevels.{PortLevels}
use Rattle.port_drives.specs.Drives.{AreOwnLevels}
use Rattle.vrt_model.specs.Comparison.{Comparison}
use Rattle.vrt_model.specs.Lists.{mark_at}
use Rattle.vrt_model.specs.declared.ids.Net.{Net}
use Rattle.vrt_model.specs.declared.verdict.Verdict.{Verdict}
use Rattle.vrt_model.specs.declared.whole.CellFacts.{CellFacts}

-- a phase that does not stop the search has its levels
pub phase_levels : (k : Comparison) (phase : ℕ) (t : NetLevels) (found : Option Verdict) → ((verdict : Verdict) → found ≡ Some verdict → ⊥) → TellsPhaseLevels k phase t found → ArePhaseLevels k phase t
phase_levels k phase t None none tells = tells
phase_levels k phase t (Some verdict) none tells = absurd (none verdict refl)

-- and one that stops it is not equal
pub stop_tells : (k : Comparison) (budget phase : ℕ) (nets : List Net) (ports : PortLevels) (verdict : Verdict) → IsStop k budget phase verdict → TellsPorts k nets ports verdict
stop_tells k budget phase nets ports verdict stop equal = absurd (subst (IsStop k budget phase) equal stop)

-- the same nets are asked for as before
pub still_asked : (nets : List Net) (old new : NetLevels) → KeepsTables old new → AreAsked nets old → AreAsked nets new
still_asked nets old new keeps asked n m = subst (λ (marks : List Bool). mark_at marks n.0 ≡ true) (sym keeps.asked) (asked n m)

pub still_tables : (count : ℕ) (old new : NetLevels) → KeepsTables old new → HasTables count old → HasTables count new
still_tables count old new keeps has = record {
  asked = ap (λ (marks : List Bool). length marks) keeps.asked ∙ has.asked;
  bare = keeps.bare ∙ has.bare;
  kept = keeps.kept ∙ has.kept;
}

-- one phase more
pub ports_next : (k : Comparison) (phase : ℕ) (t : NetLevels) (nets : List Net) (old new : PortLevels) → ArePhaseLevels k phase t → AreAsked nets t → All (λ (n : Net). n.0 < length k.circuit.nets) nets
    → old.nets ≡ nets → (0 < phase → ArePortLevels k phase nets old.levels.items) → AreJoined k.circuit t old.nets (phase == 0) old.levels.items new.levels.items
    → ArePortLevels k (phase + 1) nets new.levels.items
ports_next k phase t nets old new levels asked within same before joined =
    subst (λ (upto : ℕ). ArePortLevels k upto nets new.levels.items) (omega arith)
    (levels_joined k phase t nets old.levels.items new.levels.items levels asked within before
    (subst (λ (ns : List Net). AreJoined k.circuit t ns (phase == 0) old.levels.items new.levels.items) same joined))

-- ---- where the drives are told

-- ports that have the levels of all phases have them where that is asked
pub own_levels : (k : Comparison) (facts : List CellFacts) (nets : List Net) (levels : List (Option ℕ)) → ArePortLevels k (length k.rules.phases) nets levels → AreOwnLevels k facts nets levels
own_levels k facts nets levels are j n at none = are j n at
