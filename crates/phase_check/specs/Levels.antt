-- The levels of nets with which the search of an equal phase ends.
use Rattle.std.specs.Prelude.{◌≡◌, ℕ, ◌+◌, length, Result, Ok, Err}
use Rattle.bdd_core.specs.Store.{Diagrams}
use Rattle.bdd_core.specs.declared.handle.Spent.{Spent}
use Rattle.drive_levels.specs.NetLevels.{drive_operations}
use Rattle.drive_levels.specs.PhaseLevels.{ArePhaseLevels}
use Rattle.drive_levels.specs.declared.table.NetLevels.{NetLevels}
use Rattle.phase_check.specs.States.{IsWished, of_search}
use Rattle.phase_check.specs.declared.search.Search.{Search}
use Rattle.phase_terms.specs.Found.{MaySpend}
use Rattle.vrt_model.specs.Comparison.{Comparison}

-- the tables have the levels of the nets that are asked for; or the budget is used up, where so many operations may do so, and as many nodes
-- are there
abbrev pub LevelsGive : Comparison → ℕ → ℕ → ℕ → NetLevels → Diagrams → Result Unit Spent → Type 0
LevelsGive k phase budget operations levels d (Ok done) = ArePhaseLevels k phase levels
LevelsGive k phase budget operations levels d (Err spent) = MaySpend k budget phase operations × (length d.nodes ≡ budget)

-- after a phase that was found equal
abbrev pub TellsLevels : Search → ℕ → Diagrams → Diagrams → NetLevels → Result Unit Spent → Type 0
TellsLevels s made old new levels result =
    IsWished (of_search s) s.phase old.budget made s.plan.now s.care s.words old
    → LevelsGive (of_search s) s.phase old.budget (made + drive_operations (of_search s).circuit s.plan.now.parts.list s.plan.now.kept.list) levels new result
