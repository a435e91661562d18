-- What is written of a cell where its classes are asked for, or a check.
use Rattle.std.specs.Prelude.{◌≡◌, ◌≤◌, ◌⊎◌, ◌∷◌, [], ℕ, List, Some}
use Rattle.cell_compare.specs.Cells.{IsEarly}
use Rattle.channel_parts.specs.Classes.{AreClasses}
use Rattle.channel_parts.specs.declared.class.ClassLine.{ClassLine}
use Rattle.mode_lines.specs.Lines.{class_lines}
use Rattle.verity_run.specs.Reports.{IsChecked, cell_line, counted}
use Rattle.verity_run.specs.declared.refusals.Inputs.{Inputs}
use Rattle.verity_run.specs.declared.report.Task.{Task}
use Rattle.verity_run.specs.declared.report.Task.TheVariants.{Check, Classes}
use Rattle.verity_run.specs.declared.status.Count.{Count}
use Rattle.verity_run.specs.declared.status.Count.TheVariants.{Nothing}
use Rattle.vrt_model.specs.Comparison.{cell_at}
use Rattle.vrt_model.specs.Unsupported.{IsSupported, comparison_of}
use Rattle.vrt_model.specs.declared.blif.Blif.{Blif}
use Rattle.vrt_model.specs.declared.design.Design.{Design}
use Rattle.vrt_model.specs.declared.rules.Rules.{Rules}
use Rattle.vrt_model.specs.declared.verdict.Verdict.{Verdict}
use Rattle.vrt_model.specs.declared.whole.CellFacts.{CellFacts}

-- of a cell that is skipped or not supported the line of that verdict
pub record IsNotCompared (design : Design) (blif : Blif) (rules : Rules) (cell : ℕ) (count : Count) (lines : List (List ℕ)) : Type 0 where
  pub verdict : Verdict
  pub early : IsEarly design blif rules cell (Some verdict)
  pub counts : count ≡ counted verdict
  pub line : lines ≡ cell_line design blif rules cell verdict ∷ []

-- of a cell that is supported the classes of the parts of its circuit
pub record HasClassLines (design : Design) (blif : Blif) (rules : Rules) (cell : ℕ) (count : Count) (lines : List (List ℕ)) : Type 0 where
  pub model : ℕ
  pub supported : IsSupported design blif rules cell model
  pub classes : List ClassLine
  pub are : AreClasses (comparison_of design blif rules cell model).circuit rules.phases classes
  pub counts : count ≡ Nothing
  pub lines_are : lines ≡ class_lines (cell_at design cell).name (comparison_of design blif rules cell model).circuit classes

abbrev pub IsClassed : Design → Blif → Rules → ℕ → Count → List (List ℕ) → Type 0
IsClassed design blif rules cell count lines = IsNotCompared design blif rules cell count lines ⊎ HasClassLines design blif rules cell count lines

-- what is written of a cell for a task, and what is known before and then; classes tell nothing of a cell
abbrev pub IsOfTask : Task → Inputs → List CellFacts → ℕ → Count → List (List ℕ) → List CellFacts → Type 0
IsOfTask (Check budget) i = IsChecked i.design i.blif i.rules budget
IsOfTask Classes i = λ known cell count lines then. IsClassed i.design i.blif i.rules cell count lines × (then ≡ known)

-- a budget of nodes that diagrams can have
abbrev pub IsBudget : ℕ → Type 0
IsBudget budget = (65536 ≤ budget) × (budget ≤ 64000000)

-- its budget is in its range
abbrev pub IsTask : Task → Type 0
IsTask (Check budget) = IsBudget budget
IsTask Classes = Unit {0}
