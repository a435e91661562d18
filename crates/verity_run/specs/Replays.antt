-- What is written where a cell is replayed at a valuation, and what stands in its way.
use Rattle.std.specs.Prelude.{◌≡◌, ◌⊎◌, ◌++◌, [], ℕ, List, Bool, Option, Some, None, codes, unwrap_or}
use Rattle.std.specs.Borrow.{Bor}
use Rattle.std.specs.Str.{str_to_ascii_lowercase}
use Rattle.cell_room.specs.Flat.{Flattened}
use Rattle.command_line.specs.Requests.{value_of}
use Rattle.mode_lines.specs.Lines.{replay_lines}
use Rattle.mode_lines.specs.Lists.{bits_at, fault_at, items_in}
use Rattle.mode_lines.specs.declared.lists.AtItem.{AtItem}
use Rattle.mode_lines.specs.declared.points.CellPhase.{CellPhase}
use Rattle.mode_lines.specs.declared.valuations.AtFault.{AtFault}
use Rattle.mode_lines.specs.declared.valuations.AtFault.TheVariants.{NoSuchName, Twice, NoMemory as NoAtMemory}
use Rattle.verity_run.specs.Classes.{IsNotCompared}
use Rattle.verity_run.specs.Messages.{no_name_line, words_line}
use Rattle.verity_run.specs.Named.{cell_asked, phase_asked}
use Rattle.verity_run.specs.Refusals.{Tells}
use Rattle.verity_run.specs.Reports.{with_count}
use Rattle.verity_run.specs.declared.refusals.Refusal.{Refusal}
use Rattle.verity_run.specs.declared.refusals.Refusal.TheVariants.{NoMemory as OutOfMemory}
use Rattle.verity_run.specs.declared.status.Count.{Count}
use Rattle.verity_run.specs.declared.status.Count.TheVariants.{Nothing}
use Rattle.verity_run.specs.declared.status.Status.{Status}
use Rattle.verity_run.specs.declared.status.Status.TheVariants.{AllEqual}
use Rattle.vrt_model.specs.Comparison.{Comparison, cell_at, phase_at}
use Rattle.vrt_model.specs.Constraints.{meets}
use Rattle.vrt_model.specs.Held.{setting_of, variable_names}
use Rattle.vrt_model.specs.Unsupported.{IsSupported, comparison_of}
use Rattle.vrt_model.specs.declared.blif.Blif.{Blif}
use Rattle.vrt_model.specs.declared.design.Design.{Design}
use Rattle.vrt_model.specs.declared.groups.Vars.{Vars}
use Rattle.vrt_model.specs.declared.rules.Rules.{Rules}
use Rattle.witness.specs.Replays.{AreValues}
use Rattle.witness.specs.declared.seen.Seen.{Seen}

-- the list that is given; none is an empty one
abbrev pub list_in : Option (Bor (List ℕ)) → List ℕ
list_in at = unwrap_or (value_of at) []

-- its names with bits, if it has the form
abbrev pub items_asked : Option (Bor (List ℕ)) → Option (List AtItem)
items_asked at = items_in (list_in at)

-- ---- what stands in the way

-- the line of a phase that is not there
abbrev pub IsNoPhase : Rules → List ℕ → List ℕ → Type 0
IsNoPhase rules word line = (phase_asked rules word ≡ None) × (line ≡ no_name_line (str_to_ascii_lowercase word))

-- of a list that has another form
abbrev pub IsNoList : Option (Bor (List ℕ)) → List ℕ → Type 0
IsNoList at line = (items_asked at ≡ None) × (line ≡ words_line (codes "list does not fit") [])

-- of names and bits that give no valuation
abbrev pub at_line : AtFault → List ℕ
at_line (NoSuchName name) = no_name_line name
at_line (Twice name) = words_line (codes "given twice: ") name
at_line NoAtMemory = []

pub record IsNoValuation (k : Comparison) (phase : ℕ) (items : List AtItem) (line : List ℕ) : Type 0 where
  pub fault : AtFault
  pub first : fault_at (variable_names k phase) items ≡ Some fault
  pub told : line ≡ at_line fault

-- the cell is supported, and this holds of its comparison
abbrev pub IsSupportedWith : Design → Blif → Rules → ℕ → (Comparison → Type 0) → Type 0
IsSupportedWith design blif rules cell P = (m : ℕ) × IsSupported design blif rules cell m × P (comparison_of design blif rules cell m)

-- the line of the first in this order: the phase is not there, the list has another form, and of a cell that is supported its
-- names with bits give no valuation
abbrev pub OfReplay : Design → Blif → Rules → List ℕ → List ℕ → Option (Bor (List ℕ)) → List ℕ → Type 0
OfReplay design blif rules cell phase at line =
    IsNoPhase rules phase line
    ⊎ ((place : ℕ) × (phase_asked rules phase ≡ Some place)
    × (IsNoList at line
    ⊎ ((items : List AtItem) × (items_asked at ≡ Some items)
    × ((n : ℕ) × (cell_asked design cell ≡ Some n) × IsSupportedWith design blif rules n (λ k. IsNoValuation k place items line)))))

-- ---- what is written

-- the lines of what the nets show at a valuation
pub record HasValueLines (k : Comparison) (phase : ℕ) (bits : List Bool) (lines : List (List ℕ)) : Type 0 where
  pub bare : List Seen
  pub kept : List Seen
  pub values : AreValues k.circuit (phase_at k.rules phase) (setting_of k phase bits) bare kept
  pub lines_are :
      lines ≡ replay_lines (cell_at k.design k.cell).name (phase_at k.rules phase).name (meets k phase (setting_of k phase bits)) k.circuit bare kept

-- at the valuation that names and bits give
pub record IsShown (k : Comparison) (phase : ℕ) (items : List AtItem) (count : Count) (lines : List (List ℕ)) : Type 0 where
  pub named : fault_at (variable_names k phase) items ≡ None
  pub shown : HasValueLines k phase (bits_at (variable_names k phase) items) lines
  pub counts : count ≡ Nothing

-- of a cell that is not compared the line of its verdict
abbrev pub IsReplayOf : Design → Blif → Rules → ℕ → ℕ → List AtItem → Count → List (List ℕ) → Type 0
IsReplayOf design blif rules cell phase items count lines =
    IsNotCompared design blif rules cell count lines ⊎ IsSupportedWith design blif rules cell (λ k. IsShown k phase items count lines)

pub record IsReplayed (design : Design) (blif : Blif) (rules : Rules) (cell phase : List ℕ) (at : Option (Bor (List ℕ))) (count : Count) (lines : List (List ℕ)) : Type 0 where
  pub number : ℕ
  pub there : cell_asked design cell ≡ Some number
  pub place : ℕ
  pub in_phase : phase_asked rules phase ≡ Some place
  pub items : List AtItem
  pub items_are : items_asked at ≡ Some items
  pub replayed : IsReplayOf design blif rules number place items count lines

pub record IsReplay (design : Design) (blif : Blif) (rules : Rules) (cell phase : List ℕ) (at : Option (Bor (List ℕ))) (status : Status) (lines : List (List ℕ)) : Type 0 where
  pub count : Count
  pub replayed : IsReplayed design blif rules cell phase at count lines
  pub ended : status ≡ with_count AllEqual count

-- lines with which that begins
abbrev pub BeginsReplay : Design → Blif → Rules → List ℕ → List ℕ → Option (Bor (List ℕ)) → List (List ℕ) → Type 0
BeginsReplay design blif rules cell phase at lines = (status : Status) × (rest : List (List ℕ)) × IsReplay design blif rules cell phase at status (lines ++ rest)

-- ---- in code

-- the refusal of names and bits that give no valuation
abbrev pub RefusesFault : AtFault → Refusal → Type 0
RefusesFault (NoSuchName name) refusal = Tells (λ line. line ≡ no_name_line name) refusal
RefusesFault (Twice name) refusal = Tells (λ line. line ≡ words_line (codes "given twice: ") name) refusal
RefusesFault NoAtMemory refusal = refusal ≡ OutOfMemory

-- the cell in the phase, as its parts stand
pub record IsPointOf (s : CellPhase) (design : Design) (rules : Rules) (cell phase : ℕ) (f : Flattened) (vars : Vars) : Type 0 where
  pub design_is : s.design.now ≡ design
  pub rules_are : s.rules.now ≡ rules
  pub cell_is : s.cell ≡ cell
  pub circuit_is : s.circuit.now ≡ f.circuit
  pub groups_are : s.groups.now ≡ f.groups
  pub sources_are : s.sources.now ≡ vars.sources
  pub phase_is : s.phase ≡ phase
