-- Why a cell is not compared.
use Rattle.std.specs.Prelude.{◌≡◌, ℕ, Result, Ok, Err, Some, Option}
use Rattle.cell_compare.specs.Cells.{HasLine, IsFlattenedTo}
use Rattle.cell_compare.specs.declared.not_compared.Stop.{Stop}
use Rattle.cell_compare.specs.declared.not_compared.Stop.TheVariants.{Skipped as IsSkipped, Unsupported as IsUnsupported, NoMemory}
use Rattle.cell_room.specs.Flat.{Flattened}
use Rattle.cell_room.specs.Planned.{IsPlannedCell}
use Rattle.cell_room.specs.declared.planned.Planned.{Planned}
use Rattle.vrt_model.specs.PairedPorts.{Skipped, paired_model}
use Rattle.vrt_model.specs.Unsupported.{IsUnsupportedBy}
use Rattle.vrt_model.specs.declared.blif.Blif.{Blif}
use Rattle.vrt_model.specs.declared.design.Design.{Design}
use Rattle.vrt_model.specs.declared.rules.Rules.{Rules}
use Rattle.vrt_model.specs.declared.verdict.Verdict.TheVariants.{Unsupported}
use Rattle.vrt_model.specs.declared.verdict.Why.{Why}

-- the cell cannot be checked for this cause, its line is that of the cell, and this was made of it
pub record IsHindered (design : Design) (blif : Blif) (rules : Rules) (cell : ℕ) (why : Why) (flattened : Option Flattened) : Type 0 where
  pub cause : IsUnsupportedBy design blif rules cell why
  pub line : HasLine design blif rules cell (Unsupported why) flattened
  pub made : IsFlattenedTo design blif rules cell (Some (Unsupported why)) flattened

-- a planned cell that pairs with a model; or the rules say that it is not compared, or it cannot be checked
abbrev pub PlannedOrStops : Design → Blif → Rules → ℕ → Result Planned Stop → Type 0
PlannedOrStops design blif rules cell (Ok p) = (m : ℕ) × IsPlannedCell design blif rules cell m p
PlannedOrStops design blif rules cell (Err IsSkipped) = paired_model design blif rules cell ≡ Skipped
PlannedOrStops design blif rules cell (Err (IsUnsupported why flattened)) = IsHindered design blif rules cell why flattened
PlannedOrStops design blif rules cell (Err NoMemory) = Unit {0}
