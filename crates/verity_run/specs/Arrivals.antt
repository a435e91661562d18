-- What is written where arrival orders of a cell are asked, and what stands in its way.
use Rattle.std.specs.Prelude.{◌≡◌, ◌≢◌, ◌⊎◌, ◌∷◌, [], ℕ, Bool, true, false, List, Option, Some, None, IfSome, codes, map}
use Rattle.arrival_lines.specs.ArrivalLines.{IsArrivalTold}
use Rattle.arrival_lines.specs.RisingNames.{rising_fault}
use Rattle.cell_compare.specs.Cells.{HasLine, HasRuns, IsComplete, IsFlattenedTo}
use Rattle.cells_below.specs.Below.{AreBelow}
use Rattle.domino_order.specs.declared.arrival.Arrival.{Arrival}
use Rattle.domino_order.specs.declared.arrival.Arrival.TheVariants.{Yes, No, TooMany, Budget}
use Rattle.mode_lines.specs.NameLists.{names_in}
use Rattle.mode_lines.specs.declared.valuations.AtFault.{AtFault}
use Rattle.verity_run.specs.Messages.{words_line}
use Rattle.verity_run.specs.Named.{cell_asked, phase_asked}
use Rattle.verity_run.specs.Replays.{IsNoPhase, IsSupportedWith, at_line}
use Rattle.verity_run.specs.Reports.{AreVerdicts, cell_line, counted, with_count}
use Rattle.verity_run.specs.declared.report.Judged.{Judged}
use Rattle.verity_run.specs.declared.status.Count.{Count}
use Rattle.verity_run.specs.declared.status.Count.TheVariants.{Nothing, Pending, Faulty}
use Rattle.verity_run.specs.declared.status.Status.{Status}
use Rattle.verity_run.specs.declared.status.Status.TheVariants.{AllEqual}
use Rattle.vrt_model.specs.Comparison.{Comparison}
use Rattle.vrt_model.specs.Hierarchy.{cell_order}
use Rattle.vrt_model.specs.Lists.{Among}
use Rattle.vrt_model.specs.Verdicts.{Answer}
use Rattle.vrt_model.specs.declared.blif.Blif.{Blif}
use Rattle.vrt_model.specs.declared.design.Design.{Design}
use Rattle.vrt_model.specs.declared.rules.Rules.{Rules}
use Rattle.vrt_model.specs.declared.verdict.Verdict.{Verdict}
use Rattle.vrt_model.specs.declared.verdict.Verdict.TheVariants.{Equal, Skipped, Fault, Vacuous, Budget as Budgeted, Unsupported}
use Rattle.vrt_model.specs.declared.whole.CellFacts.{CellFacts}

-- ---- the verdict on the cell

-- a check of these cells, one behind the other, has this verdict on a cell among them
pub record HasVerdict (design : Design) (blif : Blif) (rules : Rules) (budget : ℕ) (cells : List ℕ) (cell : ℕ) (verdict : Verdict) : Type 0 where
  pub answers : List Answer
  pub on : map (λ (a : Answer). a.cell) answers ≡ cells
  pub verdicts : (known : List CellFacts) × AreVerdicts design blif rules budget answers known
  pub its : Among answers (record { cell = cell; verdict = verdict })
  pub complete : IsComplete design blif rules budget cell verdict
  pub runs : HasRuns design blif rules cell verdict

-- this holds of the cell of a name and of its verdict, where it and the cells below it are checked
abbrev pub IsJudgedAs : Design → Blif → Rules → ℕ → List ℕ → (ℕ → Verdict → Type 0) → Type 0
IsJudgedAs design blif rules budget word P =
    (n : ℕ) × (cell_asked design word ≡ Some n)
    × ((cells : List ℕ) × AreBelow design n (cell_order design) cells × ((verdict : Verdict) × HasVerdict design blif rules budget cells n verdict × P n verdict))

-- it is equal, and this holds of its comparison
abbrev pub IsEqualWith : Design → Blif → Rules → (Comparison → Type 0) → ℕ → Verdict → Type 0
IsEqualWith design blif rules P cell verdict = (verdict ≡ Equal) × IsSupportedWith design blif rules cell P

-- ---- what stands in the way

-- the line of a list in which a name is empty
abbrev pub IsNoNames : List ℕ → List ℕ → Type 0
IsNoNames rise line = (names_in rise ≡ None) × (line ≡ words_line (codes "list does not fit") [])

-- of the first name that no input port has, or that stands before
pub record IsNoRising (k : Comparison) (names : List (List ℕ)) (line : List ℕ) : Type 0 where
  pub fault : AtFault
  pub first : rising_fault k names ≡ Some fault
  pub told : line ≡ at_line fault

-- the line of the first in this order: the phase is not there, the list has an empty name, and of a cell that is equal a name is that of no
-- input port or stands twice
abbrev pub OfArrival : Design → Blif → Rules → ℕ → List ℕ → List ℕ → List ℕ → List ℕ → Type 0
OfArrival design blif rules budget cell phase rise line =
    IsNoPhase rules phase line
    ⊎ ((place : ℕ) × (phase_asked rules phase ≡ Some place)
    × (IsNoNames rise line
    ⊎ ((names : List (List ℕ)) × (names_in rise ≡ Some names)
    × IsJudgedAs design blif rules budget cell (IsEqualWith design blif rules (λ k. IsNoRising k names line)))))

-- ---- what is written

-- what an answer counts for: that the order matters is a fault
abbrev pub counted_arrival : Arrival → Count
counted_arrival Yes = Nothing
counted_arrival (No port valuation) = Faulty
counted_arrival (TooMany count) = Pending
counted_arrival (Budget nodes) = Pending

-- the line of the answer on an equal cell
pub record HasArrivalLine (k : Comparison) (blif : Blif) (budget phase : ℕ) (names : List (List ℕ)) (count : Count) (line : List ℕ) : Type 0 where
  pub arrival : Arrival
  pub told : IsArrivalTold k blif budget phase names arrival line
  pub counts : count ≡ counted_arrival arrival

-- of a cell that is not equal the line of its verdict
abbrev pub IsVerdictLine : Design → Blif → Rules → Count → List ℕ → ℕ → Verdict → Type 0
IsVerdictLine design blif rules count line cell verdict = (verdict ≢ Equal) × (count ≡ counted verdict) × (line ≡ cell_line design blif rules cell verdict)

abbrev pub IsArrivalOf : Design → Blif → Rules → ℕ → ℕ → List (List ℕ) → Count → List ℕ → ℕ → Verdict → Type 0
IsArrivalOf design blif rules budget phase names count line cell verdict =
    IsVerdictLine design blif rules count line cell verdict ⊎ IsEqualWith design blif rules (λ k. HasArrivalLine k blif budget phase names count line) cell verdict

pub record IsArrival (design : Design) (blif : Blif) (rules : Rules) (budget : ℕ) (cell phase rise : List ℕ) (count : Count) (line : List ℕ) : Type 0 where
  pub place : ℕ
  pub in_phase : phase_asked rules phase ≡ Some place
  pub names : List (List ℕ)
  pub names_are : names_in rise ≡ Some names
  pub judged : IsJudgedAs design blif rules budget cell (IsArrivalOf design blif rules budget place names count line)

-- the one line, and the status with it
pub record IsArrivalAnswer (design : Design) (blif : Blif) (rules : Rules) (budget : ℕ) (cell phase rise : List ℕ) (status : Status) (lines : List (List ℕ)) : Type 0 where
  pub count : Count
  pub line : List ℕ
  pub is : IsArrival design blif rules budget cell phase rise count line
  pub ended : status ≡ with_count AllEqual count
  pub lines_are : lines ≡ line ∷ []

-- ---- in code

abbrev pub is_equal_verdict : Verdict → Bool
is_equal_verdict Equal = true
is_equal_verdict Skipped = false
is_equal_verdict (Fault fault) = false
is_equal_verdict (Vacuous phase) = false
is_equal_verdict (Budgeted nodes phase) = false
is_equal_verdict (Unsupported why) = false

-- what was judged of a cell is among these answers
pub record IsAnswerOn (design : Design) (blif : Blif) (rules : Rules) (budget : ℕ) (answers : List Answer) (cell : ℕ) (j : Judged) : Type 0 where
  pub its : Among answers (record { cell = cell; verdict = j.verdict })
  pub complete : IsComplete design blif rules budget cell j.verdict
  pub runs : HasRuns design blif rules cell j.verdict
  pub line : HasLine design blif rules cell j.verdict j.flattened
  pub made : IsFlattenedTo design blif rules cell (Some j.verdict) j.flattened

-- a check of the first cells, and what was judged of one that may be among them
pub record IsFoundSoFar (design : Design) (blif : Blif) (rules : Rules) (budget : ℕ) (cells : List ℕ) (known : List CellFacts) (cell : ℕ) (found : Option Judged) : Type 0 where
  pub answers : List Answer
  pub on : map (λ (a : Answer). a.cell) answers ≡ cells
  pub verdicts : AreVerdicts design blif rules budget answers known
  pub found_is : IfSome found (IsAnswerOn design blif rules budget answers cell)

-- what was judged of a cell, where these cells are checked one behind the other
pub record IsFound (design : Design) (blif : Blif) (rules : Rules) (budget : ℕ) (cells : List ℕ) (cell : ℕ) (j : Judged) : Type 0 where
  pub verdict : HasVerdict design blif rules budget cells cell j.verdict
  pub line : HasLine design blif rules cell j.verdict j.flattened
  pub made : IsFlattenedTo design blif rules cell (Some j.verdict) j.flattened
