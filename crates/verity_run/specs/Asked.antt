-- What a request asks of the cells that were read, and what stands in its way.
use Rattle.std.specs.Prelude.{◌≡◌, ◌⊎◌, ◌++◌, ◌∷◌, [], ℕ, List, Option, Some, None, unwrap_or}
use Rattle.std.specs.Str.{str_to_ascii_lowercase}
use Rattle.cells_below.specs.Below.{AreBelow}
use Rattle.command_line.specs.Requests.{value_of}
use Rattle.command_line.specs.declared.request.Request.{Request}
use Rattle.command_line.specs.declared.request.Request.TheVariants.{Check, Replay, Classes, Generate, Arrive, Blif as AsBlif}
use Rattle.generator.specs.Texts.{IsSize}
use Rattle.verity_run.specs.Arrivals.{IsArrivalAnswer, OfArrival}
use Rattle.verity_run.specs.Classes.{IsBudget, IsClassed}
use Rattle.verity_run.specs.Given.{ByFile}
use Rattle.verity_run.specs.Messages.{last_line, no_name_line}
use Rattle.verity_run.specs.Named.{cell_asked}
use Rattle.verity_run.specs.Refusals.{OfOrder}
use Rattle.verity_run.specs.Replays.{BeginsReplay, IsReplay, OfReplay}
use Rattle.verity_run.specs.Reports.{Begins, Reports, ReportsCells}
use Rattle.verity_run.specs.Writes.{BeginsBlif, IsBlifAnswer}
use Rattle.verity_run.specs.declared.status.Status.{Status}
use Rattle.vrt_model.specs.Hierarchy.{IsOrdered, cell_order}
use Rattle.vrt_model.specs.declared.blif.Blif.{Blif}
use Rattle.vrt_model.specs.declared.design.Design.{Design}
use Rattle.vrt_model.specs.declared.rules.Rules.{Rules}

-- ---- numbers

-- the budget of nodes for each cell, 4,000,000 where the words give none
abbrev pub nodes_of : Option ℕ → ℕ
nodes_of budget = unwrap_or budget 4000000

-- the numbers of a request are in their ranges
abbrev pub IsFitting : Request → Type 0
IsFitting (Check cell budget files) = IsBudget (nodes_of budget)
IsFitting (Replay cell phase at files) = Unit {0}
IsFitting (Classes cell files) = Unit {0}
IsFitting (Arrive cell phase rise budget files) = IsBudget (nodes_of budget)
IsFitting (AsBlif cell budget files) = IsBudget (nodes_of budget)
IsFitting (Generate size budget) = IsBudget (nodes_of budget) × IsSize size

-- ---- cells

-- the name of the cell that is asked for
abbrev pub cell_word : Request → Option (List ℕ)
cell_word (Check cell budget files) = value_of cell
cell_word (Replay cell phase at files) = Some cell.now
cell_word (Classes cell files) = value_of cell
cell_word (Generate size budget) = None
cell_word (Arrive cell phase rise budget files) = Some cell.now
cell_word (AsBlif cell budget files) = Some cell.now

-- the cells that are asked for, in their order: all, or one and those below it
abbrev pub AreAsked : Design → Option (List ℕ) → List ℕ → Type 0
AreAsked design None cells = cells ≡ cell_order design
AreAsked design (Some word) cells = (top : ℕ) × (cell_asked design word ≡ Some top) × AreBelow design top (cell_order design) cells

-- the line of a cell that is asked for and not there
abbrev pub OfCellWord : Design → Option (List ℕ) → List ℕ → Type 0
OfCellWord design None line = ⊥
OfCellWord design (Some word) line = (cell_asked design word ≡ None) × (line ≡ no_name_line (str_to_ascii_lowercase word))

-- ---- what stands in the way

-- the line of what the words ask for and cannot have, beside cells
abbrev pub OfMode : Request → Design → Blif → Rules → List ℕ → Type 0
OfMode (Check cell budget files) design blif rules line = ⊥
OfMode (Replay cell phase at files) design blif rules line = OfReplay design blif rules cell.now phase.now at line
OfMode (Classes cell files) design blif rules line = ⊥
OfMode (Generate size budget) design blif rules line = ⊥
OfMode (Arrive cell phase rise budget files) design blif rules line = OfArrival design blif rules (nodes_of budget) cell.now phase.now rise.now line
OfMode (AsBlif cell budget files) design blif rules line = ⊥

-- the cell that is asked for is there, where one is
abbrev pub IsThere : Design → Option (List ℕ) → Type 0
IsThere design word = (cells : List ℕ) × AreAsked design word cells

-- the line of the first: the cells have no order, else the cell that is asked for is not there, else, where it is, what the mode
-- asks for is not to be had
abbrev pub IsBarred : Request → ByFile → Design → Blif → Rules → List ℕ → Type 0
IsBarred request words design blif rules line =
    OfOrder words design rules line
    ⊎ (IsOrdered design rules × (OfCellWord design (cell_word request) line ⊎ (IsThere design (cell_word request) × OfMode request design blif rules line)))

-- nothing does, and these are the cells that are asked for
pub record AreReady (request : Request) (design : Design) (rules : Rules) (cells : List ℕ) : Type 0 where
  pub ordered : IsOrdered design rules
  pub asked : AreAsked design (cell_word request) cells

-- ---- what is written

-- of a size that was generated: the report, and a line behind it
pub record ReportsGenerated (design : Design) (blif : Blif) (rules : Rules) (budget size : ℕ) (cells : List ℕ) (status : Status) (lines : List (List ℕ)) : Type 0 where
  pub report : List (List ℕ)
  pub reported : ReportsCells design blif rules budget cells status report
  pub last : lines ≡ report ++ last_line size ∷ []

-- what is written for a request, of these cells
abbrev pub IsAnswer : Request → Design → Blif → Rules → List ℕ → Status → List (List ℕ) → Type 0
IsAnswer (Check cell budget files) design blif rules cells status lines = ReportsCells design blif rules (nodes_of budget) cells status lines
IsAnswer (Replay cell phase at files) design blif rules cells status lines = IsReplay design blif rules cell.now phase.now at status lines
IsAnswer (Classes cell files) design blif rules cells status lines = Reports (IsClassed design blif rules) cells status lines
IsAnswer (Generate size budget) design blif rules cells status lines = ReportsGenerated design blif rules (nodes_of budget) size cells status lines
IsAnswer (Arrive cell phase rise budget files) design blif rules cells status lines = IsArrivalAnswer design blif rules (nodes_of budget) cell.now phase.now rise.now status lines
IsAnswer (AsBlif cell budget files) design blif rules cells status lines = IsBlifAnswer design blif rules (nodes_of budget) cell.now status lines

-- lines with which that begins
abbrev pub IsBegun : Request → Design → Blif → Rules → List ℕ → List (List ℕ) → Type 0
IsBegun (Check cell budget files) design blif rules cells lines = Begins (ReportsCells design blif rules (nodes_of budget)) cells lines
IsBegun (Replay cell phase at files) design blif rules cells lines = BeginsReplay design blif rules cell.now phase.now at lines
IsBegun (Classes cell files) design blif rules cells lines = Begins (Reports (IsClassed design blif rules)) cells lines
IsBegun (Generate size budget) design blif rules cells lines = Begins (ReportsCells design blif rules (nodes_of budget)) cells lines
IsBegun (Arrive cell phase rise budget files) design blif rules cells lines = ⊥
IsBegun (AsBlif cell budget files) design blif rules cells lines = BeginsBlif design blif rules (nodes_of budget) cell.now lines
