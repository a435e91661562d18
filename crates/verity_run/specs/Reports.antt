-- Reports: what is written of cells one behind the other, the status with it, and how a report begins.
use Rattle.std.specs.Prelude.{◌≡◌, ◌≢◌, ◌⊎◌, ◌<◌, ◌++◌, ◌∷◌, [], ℕ, List, Bool, true, false, All, cond, length, map, replicate, set, take}
use Rattle.std.specs.Io.KnownBytes.{Appends, Keeps}
use Rattle.std.specs.List.{list_any}
use Rattle.std.specs.declared.option.Option.{Option}
use Rattle.cell_compare.specs.Cells.{HasFacts, HasRuns, IsComplete}
use Rattle.vrt_io.specs.Causes.{Rose}
use Rattle.verity_run.specs.Messages.{joined}
use Rattle.verity_run.specs.declared.status.Count.{Count}
use Rattle.verity_run.specs.declared.status.Count.TheVariants.{Nothing, Pending, Faulty}
use Rattle.verity_run.specs.declared.status.Status.{Status}
use Rattle.verity_run.specs.declared.status.Status.TheVariants.{AllEqual, NoMemory, ReadFault, SomeFault, Undecided, Usage, WriteFault}
use Rattle.vrt_model.specs.CheckedVerdicts.{IsCheckedVerdict}
use Rattle.vrt_model.specs.Lists.{Among}
use Rattle.vrt_model.specs.Verdicts.{Answer, answer_line, report}
use Rattle.vrt_model.specs.declared.blif.Blif.{Blif}
use Rattle.vrt_model.specs.declared.design.Design.{Design}
use Rattle.vrt_model.specs.declared.rules.Rules.{Rules}
use Rattle.vrt_model.specs.declared.verdict.Verdict.{Verdict}
use Rattle.vrt_model.specs.declared.verdict.Verdict.TheVariants.{Equal, Skipped, Fault, Vacuous, Budget, Unsupported}
use Rattle.vrt_model.specs.declared.whole.CellFacts.{CellFacts}

-- ---- the status

-- what a verdict counts for; a cell that is skipped does not count
abbrev pub counted : Verdict → Count
counted Equal = Nothing
counted Skipped = Nothing
counted (Fault fault) = Faulty
counted (Vacuous phase) = Pending
counted (Budget nodes phase) = Pending
counted (Unsupported why) = Pending

-- the status with one cell more; a fault counts before what is not decided
abbrev pub with_undecided : Status → Status
with_undecided SomeFault = SomeFault
with_undecided status = Undecided

abbrev pub with_count : Status → Count → Status
with_count status Nothing = status
with_count status Pending = with_undecided status
with_count status Faulty = SomeFault

-- ---- a report, cell by cell

-- Here `IsOf` says what may be written of a cell: its number, what it counts for, and its lines.

-- of no cell nothing is written; each cell more adds its lines behind, and counts
pub data Reports (IsOf : ℕ → Count → List (List ℕ) → Type 0) : List ℕ → Status → List (List ℕ) → Type 0 where
  none : Reports IsOf [] AllEqual []
  more :
      {cells cells' : List ℕ} {status status' : Status} {lines lines' : List (List ℕ)} (n : ℕ) (count : Count) (own : List (List ℕ))
      → Reports IsOf cells status lines → IsOf n count own
      → cells' ≡ cells ++ n ∷ [] → status' ≡ with_count status count → lines' ≡ lines ++ own
      → Reports IsOf cells' status' lines'

-- Here `IsOf` says besides what is known of all cells before this one is looked at, and then.

-- before the first cell this is known; each cell more adds to it
pub data ReportsKnowing (IsOf : List CellFacts → ℕ → Count → List (List ℕ) → List CellFacts → Type 0) (start : List CellFacts) : List ℕ → Status → List (List ℕ) → List CellFacts → Type 0 where
  no_cell : ReportsKnowing IsOf start [] AllEqual [] start
  one_more :
      {cells cells' : List ℕ} {status status' : Status} {lines lines' : List (List ℕ)} {known known' : List CellFacts} (n : ℕ) (count : Count) (own : List (List ℕ))
      → ReportsKnowing IsOf start cells status lines known → IsOf known n count own known'
      → cells' ≡ cells ++ n ∷ [] → status' ≡ with_count status count → lines' ≡ lines ++ own
      → ReportsKnowing IsOf start cells' status' lines' known'

-- whatever is known then
abbrev pub ReportsFrom : (List CellFacts → ℕ → Count → List (List ℕ) → List CellFacts → Type 0) → List CellFacts → List ℕ → Status → List (List ℕ) → Type 0
ReportsFrom IsOf start cells status lines = (known : List CellFacts) × ReportsKnowing IsOf start cells status lines known

-- lines with which the report of cells begins: with some behind them they are the report of the first cells, however many
abbrev pub Begins : (List ℕ → Status → List (List ℕ) → Type 0) → List ℕ → List (List ℕ) → Type 0
Begins IsReport cells lines = (count : ℕ) × (status : Status) × (rest : List (List ℕ)) × IsReport (take count cells) status (lines ++ rest)

-- the cells are cells of the netlist
abbrev pub AreThere : Design → List ℕ → Type 0
AreThere design cells = (n : ℕ) → Among cells n → n < length design.cells

-- ---- verdicts

-- the line of a cell with this verdict, with its line feed
abbrev pub cell_line : Design → Blif → Rules → ℕ → Verdict → List ℕ
cell_line design blif rules cell verdict = answer_line design blif rules (record { cell = cell; verdict = verdict }) ++ 10 ∷ []

-- at first nothing is known of any cell
abbrev pub nothing_known : Design → List CellFacts
nothing_known design = replicate (length design.cells) (record { equal = false; stateless = false; drives = [] })

-- A cell was compared, where this is known of the cells before: its verdict, which is equal or a fault where the cell is within reach of
-- the budget; where it is equal, each of its runs shows the bits of its model; and what is then known of it is noted.
pub record IsJudged (design : Design) (blif : Blif) (rules : Rules) (budget : ℕ) (known : List CellFacts) (cell : ℕ) (verdict : Verdict) (then : List CellFacts) : Type 0 where
  pub facts : CellFacts
  pub is : IsCheckedVerdict design blif rules known budget cell verdict
  pub complete : IsComplete design blif rules budget cell verdict
  pub runs : HasRuns design blif rules cell verdict
  pub is_so : HasFacts design blif rules known cell verdict facts
  pub noted : then ≡ set known cell facts

-- what a check writes of a cell: the line of its verdict
pub record IsChecked (design : Design) (blif : Blif) (rules : Rules) (budget : ℕ) (known : List CellFacts) (cell : ℕ) (count : Count) (lines : List (List ℕ)) (then : List CellFacts) : Type 0 where
  pub verdict : Verdict
  pub judged : IsJudged design blif rules budget known cell verdict then
  pub counts : count ≡ counted verdict
  pub line : lines ≡ cell_line design blif rules cell verdict ∷ []

-- each verdict is that of its cell where what the verdicts before it say of their cells is known: that these are equal, and stateless, and
-- how strongly their outputs drive
pub data AreVerdicts (design : Design) (blif : Blif) (rules : Rules) (budget : ℕ) : List Answer → List CellFacts → Type 0 where
  no_verdict : AreVerdicts design blif rules budget [] (nothing_known design)
  one_verdict :
      {answers answers' : List Answer} {known known' : List CellFacts} (a : Answer) (facts : CellFacts)
      → AreVerdicts design blif rules budget answers known
      → IsCheckedVerdict design blif rules known budget a.cell a.verdict → HasFacts design blif rules known a.cell a.verdict facts
      → answers' ≡ answers ++ a ∷ [] → known' ≡ set known a.cell facts
      → AreVerdicts design blif rules budget answers' known'

abbrev pub is_fault : Verdict → Bool
is_fault Equal = false
is_fault Skipped = false
is_fault (Fault fault) = true
is_fault (Vacuous phase) = false
is_fault (Budget nodes phase) = false
is_fault (Unsupported why) = false

abbrev pub is_undecided : Verdict → Bool
is_undecided Equal = false
is_undecided Skipped = false
is_undecided (Fault fault) = false
is_undecided (Vacuous phase) = true
is_undecided (Budget nodes phase) = true
is_undecided (Unsupported why) = true

-- a fault counts before what is not decided; a cell that is skipped does not count
abbrev pub status_by : List Answer → Status
status_by answers =
    cond (list_any (λ (a : Answer). is_fault a.verdict) answers) SomeFault
    (cond (list_any (λ (a : Answer). is_undecided a.verdict) answers) Undecided AllEqual)

-- one line for each answer, with its line feed
abbrev pub answer_lines : Design → Blif → Rules → List Answer → List (List ℕ)
answer_lines design blif rules answers = map (λ (a : Answer). answer_line design blif rules a ++ 10 ∷ []) answers

-- the report of the verdicts on cells in this order, and its status; each that is within reach of the budget is decided, and each run of an
-- equal one shows the bits of its model
pub record ReportsCells (design : Design) (blif : Blif) (rules : Rules) (budget : ℕ) (cells : List ℕ) (status : Status) (lines : List (List ℕ)) : Type 0 where
  pub answers : List Answer
  pub on : map (λ (a : Answer). a.cell) answers ≡ cells
  pub verdicts : (known : List CellFacts) × AreVerdicts design blif rules budget answers known
  pub complete : All (λ (a : Answer). IsComplete design blif rules budget a.cell a.verdict) answers
  pub runs : All (λ (a : Answer). HasRuns design blif rules a.cell a.verdict) answers
  pub ended : status ≡ status_by answers
  pub lines_are : lines ≡ answer_lines design blif rules answers
  pub text : joined lines ≡ report design blif rules answers

-- ---- what was put of a report

-- the report of cells was put
pub record PutsReport (IsOf : List CellFacts → ℕ → Count → List (List ℕ) → List CellFacts → Type 0) (start : List CellFacts) (cells : List ℕ) (status : Status) (known : List CellFacts) (old new : Option (List ℕ)) : Type 0 where
  pub lines : List (List ℕ)
  pub reports : ReportsKnowing IsOf start cells status lines known
  pub put : Appends old new (joined lines)

-- The report was not put as a whole: the output failed, and a front of its first lines was put; or memory was wanting, and
-- its first lines were.
pub record StopsReport (IsOf : List CellFacts → ℕ → Count → List (List ℕ) → List CellFacts → Type 0) (start : List CellFacts) (cells : List ℕ) (status : Status) (old new : Option (List ℕ)) (before now : ℕ) : Type 0 where
  pub stopped : (status ≡ WriteFault) ⊎ (status ≡ NoMemory)
  pub fault : status ≡ WriteFault → Rose before now × ((lines : List (List ℕ)) × Begins (ReportsFrom IsOf start) cells lines × ((n : ℕ) × Appends old new (take n (joined lines))))
  pub memory : status ≡ NoMemory → (lines : List (List ℕ)) × Begins (ReportsFrom IsOf start) cells lines × Appends old new (joined lines)

-- the lines of a cell were put, and the status counts it
pub record PutsCell (IsOf : List CellFacts → ℕ → Count → List (List ℕ) → List CellFacts → Type 0) (known : List CellFacts) (cell : ℕ) (status more : Status) (then : List CellFacts) (old new : Option (List ℕ)) : Type 0 where
  pub count : Count
  pub lines : List (List ℕ)
  pub is : IsOf known cell count lines then
  pub counts : more ≡ with_count status count
  pub put : Appends old new (joined lines)

-- The run ends at a cell: the output failed in its lines, or memory was wanting, and the first of its lines were put, or nothing.
pub record StopsCell (IsOf : List CellFacts → ℕ → Count → List (List ℕ) → List CellFacts → Type 0) (known : List CellFacts) (cell : ℕ) (status : Status) (old new : Option (List ℕ)) (before now : ℕ) : Type 0 where
  pub stopped : (status ≡ WriteFault) ⊎ (status ≡ NoMemory)
  pub fault :
      status ≡ WriteFault
      → (count : Count) × (lines : List (List ℕ)) × (then : List CellFacts) × IsOf known cell count lines then × (Rose before now × ((n : ℕ) × Appends old new (take n (joined lines))))
  pub memory :
      status ≡ NoMemory
      → Keeps old new ⊎ ((count : Count) × (lines : List (List ℕ)) × (then : List CellFacts) × IsOf known cell count lines then × ((k : ℕ) × Appends old new (joined (take k lines))))

-- a status that comes with files that were read
pub record IsEnded (status : Status) : Type 0 where
  pub written : status ≢ WriteFault
  pub had : status ≢ NoMemory
  pub read : status ≢ ReadFault
  pub understood : status ≢ Usage
