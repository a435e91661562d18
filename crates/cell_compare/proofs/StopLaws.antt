-- What is told of a cell that is not compared.
use Rattle.cell_compare.proofs.VerdictLaws.{line_with, told_why}
use Rattle.cell_compare.specs.Cells.{HasLine}
use Rattle.cell_compare.specs.Stops.{IsHindered}
use Rattle.cell_room.specs.Compared.{AreInputs}
use Rattle.cell_room.specs.Flat.{Flattened}
use Rattle.cell_room.specs.Planned.{PlannedTells}
use Rattle.cell_room.specs.Steps.{IsInTheWay}
use Rattle.cell_room.specs.declared.planned.NotPlanned.TheVariants.{Because}
use Rattle.std.proofs.Common.{Err, None, Option, Some, inl, refl, ℕ}
use Rattle.vrt_model.specs.declared.blif.Blif.{Blif}
use Rattle.vrt_model.specs.declared.design.Design.{Design}
use Rattle.vrt_model.specs.declared.rules.Rules.{Rules}
use Rattle.vrt_model.specs.declared.verdict.Verdict.TheVariants.{Unsupported}
use Rattle.vrt_model.specs.declared.verdict.Why.{Why}
use Rattle.vrt_model.specs.declared.verdict.Why.TheVariants.{Cycle, DeviceModel, ModelCycle, NoClock, NoModel, OutputIsInput, Ports, SupplyTie, TooLarge, TooManyVars, Unmatched}

-- a cause that stands in the way of circuit or model is told without them
line_without : (design : Design) (blif : Blif) (rules : Rules) (cell : ℕ) (why : Why) → IsInTheWay why → HasLine design blif rules cell (Unsupported why) None
line_without design blif rules cell (Ports name) way = refl
line_without design blif rules cell (Unmatched name) way = refl
line_without design blif rules cell (DeviceModel model) way = refl
line_without design blif rules cell (SupplyTie path) way = refl
line_without design blif rules cell (OutputIsInput signal) way = refl
line_without design blif rules cell (TooLarge count) way = refl
line_without design blif rules cell NoModel way = refl
line_without design blif rules cell (NoClock latch) way = refl
line_without design blif rules cell (TooManyVars count) way = absurd way
line_without design blif rules cell (Cycle phase nets) way = absurd way
line_without design blif rules cell (ModelCycle phase signals) way = absurd way

pub hindered : (design : Design) (blif : Blif) (rules : Rules) (cell m : ℕ) (why : Why) (flattened : Option Flattened) → AreInputs design blif rules cell
    → PlannedTells design blif rules cell m (Err (Because why flattened)) → IsHindered design blif rules cell why flattened
hindered design blif rules cell m why None inputs tells = record {
  cause = inl tells.0;
  line = line_without design blif rules cell why tells.1;
  made = tells.1;
}
hindered design blif rules cell m why (Some f) inputs tells = record {
  cause = told_why design blif rules cell m f inputs tells.0 why tells.1;
  line = line_with design blif rules cell m f inputs tells.0 (Unsupported why);
  made = (m, tells.0);
}
