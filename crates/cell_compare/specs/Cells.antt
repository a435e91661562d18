-- What is said of a cell beside its verdict.
use Rattle.std.specs.Prelude.{◌≡◌, ℕ, ◌<◌, ◌≤◌, ◌⊎◌, ◌↔◌, true, false, List, [], length, Option, Some, None, option_map}
use Rattle.cell_room.specs.Compared.{IsFlattened}
use Rattle.cell_room.specs.Steps.{IsInTheWay}
use Rattle.cell_room.specs.Flat.{Flattened}
use Rattle.vrt_model.specs.Budget.{enough_nodes}
use Rattle.vrt_model.specs.Comparison.{Comparison, cell_at}
use Rattle.vrt_model.specs.Equal.{IsVacuous}
use Rattle.vrt_model.specs.Facts.{AreFacts, IsTrueOf}
use Rattle.vrt_model.specs.Held.{sources_of}
use Rattle.vrt_model.specs.PairedPorts.{Model, Skipped, paired_model}
use Rattle.vrt_model.specs.Runs.{RunsMatch}
use Rattle.vrt_model.specs.Unsupported.{IsSupported, IsUnsupportedBy, comparison_of}
use Rattle.vrt_model.specs.VerdictText.{verdict_line}
use Rattle.vrt_model.specs.Verdicts.{compared}
use Rattle.vrt_model.specs.declared.blif.Blif.{Blif}
use Rattle.vrt_model.specs.declared.design.Design.{Design}
use Rattle.vrt_model.specs.declared.rules.Rules.{Rules}
use Rattle.vrt_model.specs.declared.verdict.Verdict.{Verdict}
use Rattle.vrt_model.specs.declared.verdict.Verdict.TheVariants.{Equal, Skipped as IsSkipped, Fault, Vacuous, Budget, Unsupported}
use Rattle.vrt_model.specs.declared.whole.CellFacts.{CellFacts}

-- ---- its line

-- the verdict's line by this circuit and this model is its line by those of the cell
abbrev pub HasLine : Design → Blif → Rules → ℕ → Verdict → Option Flattened → Type 0
HasLine design blif rules cell verdict flattened =
    verdict_line (cell_at design cell).name verdict rules (option_map (λ (f : Flattened). f.circuit) flattened) (option_map (λ (f : Flattened). f.model) flattened)
    ≡ verdict_line (cell_at design cell).name verdict rules
    (option_map (λ (k : Comparison). k.circuit) (compared design blif rules cell))
    (option_map (λ (k : Comparison). k.model) (compared design blif rules cell))

-- ---- what is known of it

-- What is known of a cell is true, and it is what the facts of a cell say after this verdict, where these were known of the cells below.
-- Nothing is known of a cell that is not equal.
pub record HasFacts (design : Design) (blif : Blif) (rules : Rules) (below : List CellFacts) (cell : ℕ) (verdict : Verdict) (f : CellFacts) : Type 0 where
  pub is_true : IsTrueOf design blif rules cell f
  pub are : (m : ℕ) → paired_model design blif rules cell ≡ Model m → AreFacts (comparison_of design blif rules cell m) blif below verdict f
  pub equal : (f.equal ≡ true) ↔ (verdict ≡ Equal)
  pub no_state : f.equal ≡ false → f.stateless ≡ false
  pub no_drives : f.equal ≡ false → f.drives ≡ []

-- ---- when it is decided

-- The cell is supported, a valuation meets the constraints of each phase, and each phase has at most four variables or no more
-- nodes than the budget has are ever needed.
pub record IsWithinReach (design : Design) (blif : Blif) (rules : Rules) (budget cell m : ℕ) : Type 0 where
  pub supported : IsSupported design blif rules cell m
  pub met : (phase : ℕ) → phase < length rules.phases → ¬ IsVacuous (comparison_of design blif rules cell m) phase
  pub enough :
      (phase : ℕ) → phase < length rules.phases
      → (length (sources_of (comparison_of design blif rules cell m) phase) ≤ 4) ⊎ (enough_nodes (comparison_of design blif rules cell m) blif phase ≤ budget)

-- equal, or a fault
abbrev pub IsDecided : Verdict → Type 0
IsDecided Equal = Unit {0}
IsDecided (Fault fault) = Unit {0}
IsDecided IsSkipped = ⊥
IsDecided (Vacuous phase) = ⊥
IsDecided (Budget nodes phase) = ⊥
IsDecided (Unsupported why) = ⊥

-- a cell within reach is equal or has a fault
abbrev pub IsComplete : Design → Blif → Rules → ℕ → ℕ → Verdict → Type 0
IsComplete design blif rules budget cell verdict = (m : ℕ) → IsWithinReach design blif rules budget cell m → IsDecided verdict

-- ---- its runs

-- each run of an equal cell shows the bits of its model
abbrev pub HasRuns : Design → Blif → Rules → ℕ → Verdict → Type 0
HasRuns design blif rules cell verdict =
    verdict ≡ Equal → (m : ℕ) → paired_model design blif rules cell ≡ Model m → RunsMatch (comparison_of design blif rules cell m)

-- ---- what is told before it is compared

-- The verdict of a cell that is skipped or cannot be checked, exactly where it is so; none of a supported one.
abbrev pub IsEarly : Design → Blif → Rules → ℕ → Option Verdict → Type 0
IsEarly design blif rules cell None = (m : ℕ) × IsSupported design blif rules cell m
IsEarly design blif rules cell (Some IsSkipped) = paired_model design blif rules cell ≡ Skipped
IsEarly design blif rules cell (Some (Unsupported why)) = IsUnsupportedBy design blif rules cell why
IsEarly design blif rules cell (Some Equal) = ⊥
IsEarly design blif rules cell (Some (Fault fault)) = ⊥
IsEarly design blif rules cell (Some (Vacuous phase)) = ⊥
IsEarly design blif rules cell (Some (Budget nodes phase)) = ⊥

-- its line, where there is a verdict
abbrev pub HasEarlyLine : Design → Blif → Rules → ℕ → Option Verdict → Option Flattened → Type 0
HasEarlyLine design blif rules cell None flattened = Unit {0}
HasEarlyLine design blif rules cell (Some verdict) flattened = HasLine design blif rules cell verdict flattened

-- a verdict with which nothing was made: the cell is skipped, or something stands in the way of its circuit or its model
abbrev pub IsWithout : Verdict → Type 0
IsWithout IsSkipped = Unit {0}
IsWithout (Unsupported why) = IsInTheWay why
IsWithout Equal = ⊥
IsWithout (Fault fault) = ⊥
IsWithout (Vacuous phase) = ⊥
IsWithout (Budget nodes phase) = ⊥

-- what was made of a cell by its verdict, none for one that is compared: its circuit and its model, with all that was tested before;
-- nothing only where something stands in their way
abbrev pub IsFlattenedTo : Design → Blif → Rules → ℕ → Option Verdict → Option Flattened → Type 0
IsFlattenedTo design blif rules cell verdict (Some f) = (m : ℕ) × IsFlattened design blif rules cell m f
IsFlattenedTo design blif rules cell None None = ⊥
IsFlattenedTo design blif rules cell (Some verdict) None = IsWithout verdict
