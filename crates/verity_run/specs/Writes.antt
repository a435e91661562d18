-- What is written where a cell is asked for as a BLIF model.
use Rattle.std.specs.Prelude.{◌≡◌, ◌⊎◌, ◌++◌, ◌∷◌, [], ℕ, Bool, true, false, List}
use Rattle.verity_run.specs.Arrivals.{IsJudgedAs, IsVerdictLine}
use Rattle.verity_run.specs.Reports.{with_count}
use Rattle.verity_run.specs.declared.status.Count.{Count}
use Rattle.verity_run.specs.declared.status.Count.TheVariants.{Nothing, Pending}
use Rattle.verity_run.specs.declared.status.Status.{Status}
use Rattle.verity_run.specs.declared.status.Status.TheVariants.{AllEqual}
use Rattle.vrt_model.specs.Unsupported.{IsSupported}
use Rattle.vrt_model.specs.declared.blif.Blif.{Blif}
use Rattle.vrt_model.specs.declared.design.Design.{Design}
use Rattle.vrt_model.specs.declared.rules.Rules.{Rules}
use Rattle.vrt_model.specs.declared.verdict.Verdict.{Verdict}
use Rattle.vrt_model.specs.declared.verdict.Verdict.TheVariants.{Equal}
use Rattle.written_lines.specs.Told.{IsTold}

-- a model that is written counts for nothing, a refusal as a cell that was not decided
abbrev pub counted_written : Bool → Count
counted_written true = Nothing
counted_written false = Pending

-- of an equal cell the lines of its model, or the one line of what refuses it
pub record IsWritten (design : Design) (blif : Blif) (rules : Rules) (budget cell : ℕ) (count : Count) (lines : List (List ℕ)) : Type 0 where
  pub written : Bool
  pub told : (m : ℕ) × IsSupported design blif rules cell m × IsTold design blif rules budget cell m written lines
  pub counts : count ≡ counted_written written

-- of another the line of its verdict
abbrev pub IsBlifOf : Design → Blif → Rules → ℕ → Count → List (List ℕ) → ℕ → Verdict → Type 0
IsBlifOf design blif rules budget count lines cell verdict =
    ((line : List ℕ) × IsVerdictLine design blif rules count line cell verdict × (lines ≡ line ∷ []))
    ⊎ ((verdict ≡ Equal) × IsWritten design blif rules budget cell count lines)

-- the lines, and the status with them
pub record IsBlifAnswer (design : Design) (blif : Blif) (rules : Rules) (budget : ℕ) (word : List ℕ) (status : Status) (lines : List (List ℕ)) : Type 0 where
  pub count : Count
  pub is : IsJudgedAs design blif rules budget word (IsBlifOf design blif rules budget count lines)
  pub ended : status ≡ with_count AllEqual count

-- lines with which that begins
abbrev pub BeginsBlif : Design → Blif → Rules → ℕ → List ℕ → List (List ℕ) → Type 0
BeginsBlif design blif rules budget word lines = (status : Status) × (rest : List (List ℕ)) × IsBlifAnswer design blif rules budget word status (lines ++ rest)
