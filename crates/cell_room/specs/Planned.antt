-- A cell in whose way nothing stands, with what is made of its phases; or what stands in its way.
use Rattle.std.specs.Prelude.{ℕ, length, Result, Ok, Err, Some, None}
use Rattle.cell_room.specs.Checked.{IsCheckable}
use Rattle.cell_room.specs.Compared.{IsFlattened, comparison}
use Rattle.cell_room.specs.Steps.{IsEarlyWhy}
use Rattle.cell_room.specs.Works.{ArePlans, AreVars, IsPlanned, IsToldWhy}
use Rattle.cell_room.specs.declared.planned.NotPlanned.{NotPlanned}
use Rattle.cell_room.specs.declared.planned.NotPlanned.TheVariants.{Because, NoMemory}
use Rattle.cell_room.specs.declared.planned.Phases.{Phases}
use Rattle.cell_room.specs.declared.planned.Planned.{Planned}
use Rattle.phase_terms.specs.Ready.{IsReady, comparison_in}
use Rattle.vrt_model.specs.declared.blif.Blif.{Blif}
use Rattle.vrt_model.specs.declared.design.Design.{Design}
use Rattle.vrt_model.specs.declared.rules.Rules.{Rules}
use Rattle.whole_cells.specs.Own.{AreItsPlaces}
use Rattle.whole_steps.specs.Tables.{IsWholeTable}

-- a cell that pairs with a model, flattened, with its places, few variables in each phase and no cycle, and the variables and the plan of each
pub record IsPlannedCell (design : Design) (blif : Blif) (rules : Rules) (cell m : ℕ) (p : Planned) : Type 0 where
  pub places : AreItsPlaces design rules cell p.unrolled
  pub flattened : IsFlattened design blif rules cell m p.flattened
  pub planned : IsPlanned (comparison design rules cell p.flattened)
  pub vars : AreVars (comparison design rules cell p.flattened) (length rules.phases) p.vars
  pub plans : ArePlans (comparison design rules cell p.flattened) (length rules.phases) p.plans

-- or the first cause: of the circuit or the model; or, where both are there, a count of variables or a cycle
abbrev pub PlannedTells : Design → Blif → Rules → ℕ → ℕ → Result Planned NotPlanned → Type 0
PlannedTells design blif rules cell m (Ok p) = IsPlannedCell design blif rules cell m p
PlannedTells design blif rules cell m (Err (Because why None)) = IsEarlyWhy design blif rules cell why
PlannedTells design blif rules cell m (Err (Because why (Some f))) = IsFlattened design blif rules cell m f × IsToldWhy (comparison design rules cell f) why
PlannedTells design blif rules cell m (Err NoMemory) = Unit {0}

-- ---- while its checked circuit is chosen

-- Few variables in each phase and no cycle, with the variables and the plan of each; the circuit is the flat one of the cell, and its checked
-- circuits are made by true facts.
pub record ArePhases (p : Phases) : Type 0 where
  pub ready : IsReady (comparison_in p.compared)
  pub wholes : IsWholeTable p.compared.circuit.now p.compared.wholes.drivers.now p.compared.wholes.plans.now
  pub checkable : IsCheckable (comparison_in p.compared) p.blif.now p.facts.now
  pub planned : IsPlanned (comparison_in p.compared)
  pub vars : AreVars (comparison_in p.compared) (length p.compared.rules.now.phases) p.vars.now
  pub plans : ArePlans (comparison_in p.compared) (length p.compared.rules.now.phases) p.plans.now
