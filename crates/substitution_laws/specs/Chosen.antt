-- Choices of instances by facts.
use Rattle.std.specs.Prelude.{◌≡◌, ℕ, suc, ◌<◌, true, List, length}
use Rattle.replaced_instances.specs.Steps.{AreAllowed, IsSoundNetlist, IsStep, compared_at}
use Rattle.formed_cells.specs.Formed.{AreRead}
use Rattle.vrt_model.specs.Checked.{IsChoice}
use Rattle.vrt_model.specs.Cut.{Cut, NumberedPlace, numbered_places}
use Rattle.vrt_model.specs.Facts.{IsTrueOf}
use Rattle.vrt_model.specs.Lists.{At}
use Rattle.vrt_model.specs.Unsupported.{IsSupported}
use Rattle.vrt_model.specs.declared.blif.Blif.{Blif}
use Rattle.vrt_model.specs.declared.whole.CellFacts.{CellFacts}
use Rattle.whole_ranks.specs.WholeCells.{IsLogicCell}

-- a netlist, models and rules as readers give them; true facts; and the instances that are chosen by these, one by one
pub record IsChoiceByFacts (cut : Cut) (blif : Blif) (facts : List CellFacts) : Type 0 where
  pub netlist : IsSoundNetlist cut.top
  pub read : AreRead blif cut.top.rules
  pub told : (cell : ℕ) (f : CellFacts) → At facts cell f → IsTrueOf cut.top.design blif cut.top.rules cell f
  pub tried : IsChoice cut blif facts

-- the same where cycles are not looked at: instances each of which is allowed besides those before it
pub record IsTrial (cut : Cut) (blif : Blif) (facts : List CellFacts) : Type 0 where
  pub netlist : IsSoundNetlist cut.top
  pub read : AreRead blif cut.top.rules
  pub told : (cell : ℕ) (f : CellFacts) → At facts cell f → IsTrueOf cut.top.design blif cut.top.rules cell f
  pub tried : AreAllowed cut blif facts

-- The law: a chosen instance is one more step, and its cell is supported.
abbrev pub ChosenInstancesAreSteps : Type 0
ChosenInstancesAreSteps =
    (cut : Cut) (blif : Blif) (facts : List CellFacts) (i : ℕ) (p : NumberedPlace)
    → IsChoiceByFacts cut blif facts → At (numbered_places cut.top) (suc i) p → cut.choice i ≡ true
    → (m : ℕ) × IsStep cut blif facts i p m × IsSupported cut.top.design blif cut.top.rules p.at.cell m

-- The law: its cell is a logic cell: it is equal, and has neither holds nor latches.
abbrev pub ChosenCellsAreLogic : Type 0
ChosenCellsAreLogic =
    (cut : Cut) (blif : Blif) (facts : List CellFacts) (i : ℕ) (p : NumberedPlace) (m phase : ℕ)
    → IsChoiceByFacts cut blif facts → IsStep cut blif facts i p m → IsSupported cut.top.design blif cut.top.rules p.at.cell m
    → phase < length cut.top.rules.phases
    → IsLogicCell (compared_at cut.top blif p m) phase
