-- What is told of an equal cell that is to be written.
use Rattle.std.specs.Prelude.{◌≡◌, ◌≢◌, ℕ, Bool, true, false, List, [], ◌∷◌, Result, Ok, Err, IfOk}
use Rattle.cell_writer.specs.Standing.{StandsAlone}
use Rattle.cell_writer.specs.Written.{WriteGives}
use Rattle.cell_writer.specs.declared.refusal.WriteRefusal.{WriteRefusal}
use Rattle.cell_writer.specs.declared.refusal.WriteRefusal.TheVariants.{NoMemory}
use Rattle.vrt_model.specs.Comparison.{cell_at}
use Rattle.vrt_model.specs.FlatBlif.{model_at}
use Rattle.vrt_model.specs.Unsupported.{comparison_of}
use Rattle.vrt_model.specs.declared.blif.Blif.{Blif}
use Rattle.vrt_model.specs.declared.design.Design.{Design}
use Rattle.vrt_model.specs.declared.rules.Rules.{Rules}
use Rattle.written_lines.specs.Lines.{lines_in, refusal_line}

-- the lines of the text, or the one line of the refusal of a cell of this name
abbrev pub told_lines : List ℕ → Result (List ℕ) WriteRefusal → List (List ℕ)
told_lines name (Ok text) = lines_in text
told_lines name (Err refusal) = refusal_line name refusal ∷ []

abbrev pub is_written : Result (List ℕ) WriteRefusal → Bool
is_written (Ok text) = true
is_written (Err refusal) = false

-- the text is that of the cell and stands for its model, or the refusal is the first that has a cause, and no want of memory
pub record IsTold (design : Design) (blif : Blif) (rules : Rules) (budget cell m : ℕ) (written : Bool) (lines : List (List ℕ)) : Type 0 where
  pub outcome : Result (List ℕ) WriteRefusal
  pub gives : WriteGives (comparison_of design blif rules cell m) blif (model_at blif m) budget outcome
  pub stands : IfOk outcome (StandsAlone design rules cell)
  pub had : outcome ≢ Err NoMemory
  pub written_is : written ≡ is_written outcome
  pub lines_are : lines ≡ told_lines (cell_at design cell).name outcome
