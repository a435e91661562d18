-- What is seen of a workspace, and what its phases are answered.
use Rattle.std.specs.Prelude.{◌≡◌, ℕ, ◌≤◌, Bool, List, [], length, Option, Some, None, option_map, Result, Ok, Err}
use Rattle.bdd_core.specs.Store.{Diagrams}
use Rattle.cell_compare.specs.Looked.{IsLast}
use Rattle.cell_compare.specs.Phases.{MayUseUp}
use Rattle.cell_compare.specs.declared.answers.PhaseVerdict.{PhaseVerdict}
use Rattle.cell_compare.specs.declared.answers.PhaseVerdict.TheVariants.{Clear, Fault, Vacuous, Budget}
use Rattle.cell_compare.specs.declared.answers.RoomFault.{RoomFault}
use Rattle.cell_compare.specs.declared.answers.RoomFault.TheVariants.{Skipped as IsSkippedFault, Unsupported as IsUnsupportedFault, NoMemory}
use Rattle.cell_compare.specs.declared.looked.Last.{Last}
use Rattle.cell_compare.specs.declared.workspace.Workspace.TheInside.{Inside}
use Rattle.cell_room.specs.Compared.{AreInputs}
use Rattle.cell_room.specs.Made.{IsMade, circuit_in, searched}
use Rattle.cell_room.specs.Works.{HasRoom}
use Rattle.cell_room.specs.declared.made.Made.{Made}
use Rattle.checked_cells.specs.Given.{IsCheckedOf}
use Rattle.drive_levels.specs.PhaseLevels.{ArePhaseLevels, HasTables}
use Rattle.drive_levels.specs.PortLevels.{AreAsked}
use Rattle.drive_levels.specs.declared.table.NetLevels.{NetLevels}
use Rattle.phase_terms.specs.declared.found.PhaseFault.{PhaseFault}
use Rattle.phase_told.specs.Sites.{site_of}
use Rattle.phase_told.specs.Valuations.{valuation_in}
use Rattle.phase_told.specs.declared.site.Site.{Site}
use Rattle.vrt_model.specs.Assignment.{Assignment}
use Rattle.vrt_model.specs.Checked.{IsChecked, top_of, with_circuit}
use Rattle.vrt_model.specs.CheckedVerdicts.{IsSamePlace}
use Rattle.vrt_model.specs.Comparison.{Comparison}
use Rattle.vrt_model.specs.Cut.{Cut}
use Rattle.vrt_model.specs.Equal.{IsPhaseEqual, IsVacuous}
use Rattle.vrt_model.specs.Faults.{Assigns, IsPrintedWith, Solves}
use Rattle.vrt_model.specs.Held.{setting_of}
use Rattle.vrt_model.specs.PairedPorts.{Model, Skipped, paired_model}
use Rattle.vrt_model.specs.Places.{Finding, IsFinding, IsFirstInPhase}
use Rattle.vrt_model.specs.Reading.{Partial}
use Rattle.vrt_model.specs.Unsupported.{IsSupported, IsUnsupportedBy, comparison_of}
use Rattle.vrt_model.specs.Verdicts.{MayPassBudget}
use Rattle.vrt_model.specs.declared.blif.Blif.{Blif}
use Rattle.vrt_model.specs.declared.circuit.Circuit.{Circuit}
use Rattle.vrt_model.specs.declared.design.Design.{Design}
use Rattle.vrt_model.specs.declared.rules.Rules.{Rules}
use Rattle.vrt_model.specs.declared.whole.CellFacts.{CellFacts}

-- ---- what is seen

-- what was answered last: for which phase, and with a fault its valuation
pub record Told : Type 0 where
  pub phase : ℕ
  pub answer : PhaseVerdict
  pub bits : List Bool

-- the three files, the cell, the budget, what was made of the cell, how many nodes the store has, the levels of the nets of output ports that
-- were told last, and the last answer
pub record View : Type 0 where
  pub design : Design
  pub blif : Blif
  pub rules : Rules
  pub cell : ℕ
  pub budget : ℕ
  pub made : Made
  pub count : ℕ
  pub levels : NetLevels
  pub last : Option Told

-- the valuation of a fault
abbrev pub bits_in : Diagrams → ℕ → Option PhaseFault → List Bool
bits_in d variables None = []
bits_in d variables (Some fault) = valuation_in d fault.least variables

abbrev pub told_of : Diagrams → Last → Told
told_of d l = record { phase = l.phase; answer = l.answer; bits = bits_in d l.variables l.fault }

abbrev pub view_of : Inside → View
view_of w = record {
  design = w.design.now;
  blif = w.blif.now;
  rules = w.rules.now;
  cell = w.cell;
  budget = w.budget;
  made = w.made;
  count = length w.store.nodes;
  levels = w.levels;
  last = option_map (told_of w.store) w.last;
}

-- the valuation of the last fault; empty where the last answer is none
abbrev pub bits_of_last : Option Told → List Bool
bits_of_last None = []
bits_of_last (Some t) = t.bits

-- the cell and all that was made of it stay
abbrev pub KeepsCell : View → View → Type 0
KeepsCell old new = new ≡ record old { count = new.count; levels = new.levels; last = new.last }

-- what is compared: the cell over its checked circuit
abbrev pub compared_in : View → Comparison
compared_in w = searched w.design w.rules w.cell w.made

-- ---- what is always true

abbrev pub AreLast : Comparison → ℕ → NetLevels → Diagrams → Option Last → Type 0
AreLast k budget levels d None = Unit {0}
AreLast k budget levels d (Some l) = IsLast k budget l.phase levels d l

pub record IsSound (w : Inside) : Type 0 where
  pub inputs : AreInputs w.design.now w.blif.now w.rules.now w.cell
  pub budget : (65536 ≤ w.budget) × (w.budget ≤ 64000000)
  pub made : IsMade w.design.now w.blif.now w.rules.now w.cell w.made
  pub start : w.start.nodes ≡ 2
  pub store : HasRoom (searched w.design.now w.rules.now w.cell w.made) w.budget w.made.counts.variables w.start.words w.store
  pub levels : HasTables (length (circuit_in w.made).nets) w.levels
  pub asked : AreAsked w.made.outputs w.levels
  pub last : AreLast (searched w.design.now w.rules.now w.cell w.made) w.budget w.levels w.store w.last

-- what is seen of it
pub record IsSoundView (w : View) : Type 0 where
  pub inputs : AreInputs w.design w.blif w.rules w.cell
  pub budget : (65536 ≤ w.budget) × (w.budget ≤ 64000000)
  pub made : IsMade w.design w.blif w.rules w.cell w.made
  pub levels : HasTables (length (circuit_in w.made).nets) w.levels
  pub asked : AreAsked w.made.outputs w.levels

-- ---- answers over the checked circuit

-- a finding by its site: its kind, the number that tells its place, and the two bits that it is printed with, if it is printed with any
pub record IsSiteOf (k : Comparison) (f : Finding) (site : Site) : Type 0 where
  pub kind : site.kind ≡ f.kind
  pub at : site.at ≡ site_of k f.kind f.at
  pub values :
      (a : Partial) (g : Assignment) → Solves k f.phase (setting_of k f.phase f.bits) a → Assigns k f.phase (setting_of k f.phase f.bits) g
      → IsPrintedWith k f.phase (setting_of k f.phase f.bits) a g f.kind f.at site.circuit site.wanted

-- the phase is equal, and these are the levels of the nets that are asked for; the first finding of the phase, at these bits; no valuation meets
-- its constraints; or the budget is used up, as all its operations may do, and the count of nodes is the budget
abbrev pub IsAnswer : Comparison → ℕ → ℕ → NetLevels → ℕ → List Bool → PhaseVerdict → Type 0
IsAnswer k budget phase levels count bits Clear = IsPhaseEqual k phase × ArePhaseLevels k phase levels
IsAnswer k budget phase levels count bits (Fault site) = (f : Finding) × (f.phase ≡ phase) × (f.bits ≡ bits) × IsFirstInPhase k f × IsSiteOf k f site
IsAnswer k budget phase levels count bits Vacuous = IsVacuous k phase
IsAnswer k budget phase levels count bits (Budget nodes) = (nodes ≡ budget) × (count ≡ budget) × MayUseUp k budget phase

-- ---- answers for the cell

-- a fault of the flat circuit, at the place and with the bits of the first one of the phase in the checked circuit, which the site tells
pub record IsFaultAt (k : Comparison) (cut : Cut) (c : Circuit) (phase : ℕ) (bits : List Bool) (site : Site) (flat checked : Finding) : Type 0 where
  pub finding : IsFinding k flat
  pub phase_is : flat.phase ≡ phase
  pub kind : flat.kind ≡ site.kind
  pub bits_are : flat.bits ≡ bits
  pub values :
      (a : Partial) (g : Assignment) → Solves k flat.phase (setting_of k flat.phase flat.bits) a → Assigns k flat.phase (setting_of k flat.phase flat.bits) g
      → IsPrintedWith k flat.phase (setting_of k flat.phase flat.bits) a g flat.kind flat.at site.circuit site.wanted
  pub first : IsFirstInPhase (with_circuit k c) checked
  pub checked_phase : checked.phase ≡ phase
  pub checked_bits : checked.bits ≡ bits
  pub site_is : IsSiteOf (with_circuit k c) checked site
  pub place : IsSamePlace cut site.kind flat.at checked.at

-- Of a cell whose checked circuit by true facts this is: the flat circuit is equal in the phase, and the levels are those of the checked one; a
-- fault that stands in the flat circuit, the first of the phase in the checked one; no valuation meets the constraints; or the budget is used up,
-- with more than four variables, where more nodes may be needed than it has.
abbrev pub IsPhaseAnswer : Comparison → Blif → List CellFacts → Circuit → ℕ → ℕ → NetLevels → ℕ → List Bool → PhaseVerdict → Type 0
IsPhaseAnswer k blif facts c budget phase levels count bits Clear = IsPhaseEqual k phase × ArePhaseLevels (with_circuit k c) phase levels
IsPhaseAnswer k blif facts c budget phase levels count bits (Fault site) =
    (cut : Cut) × (flat : Finding) × (checked : Finding) × (cut.top ≡ top_of k) × IsChecked cut blif facts c × IsFaultAt k cut c phase bits site flat checked
IsPhaseAnswer k blif facts c budget phase levels count bits Vacuous = IsVacuous k phase
IsPhaseAnswer k blif facts c budget phase levels count bits (Budget nodes) = (nodes ≡ budget) × (count ≡ budget) × MayPassBudget k blif budget phase

-- ---- opening

-- the workspace of a supported cell of these files, before its first phase, over the checked circuit by these facts
pub record IsWorkspace (design : Design) (blif : Blif) (rules : Rules) (facts : List CellFacts) (budget cell : ℕ) (w : View) : Type 0 where
  pub design_is : w.design ≡ design
  pub blif_is : w.blif ≡ blif
  pub rules_are : w.rules ≡ rules
  pub cell_is : w.cell ≡ cell
  pub budget_is : w.budget ≡ budget
  pub supported : (m : ℕ) × IsSupported design blif rules cell m
  pub checked : (m : ℕ) → paired_model design blif rules cell ≡ Model m → IsCheckedOf (comparison_of design blif rules cell m) blif facts (circuit_in w.made)
  pub none : w.last ≡ None

-- or why there is none: the rules say that the cell is not compared, or it cannot be checked for this cause
abbrev pub RoomGives : Design → Blif → Rules → List CellFacts → ℕ → ℕ → Result View RoomFault → Type 0
RoomGives design blif rules facts budget cell (Ok w) = IsWorkspace design blif rules facts budget cell w
RoomGives design blif rules facts budget cell (Err IsSkippedFault) = paired_model design blif rules cell ≡ Skipped
RoomGives design blif rules facts budget cell (Err (IsUnsupportedFault why)) = IsUnsupportedBy design blif rules cell why
RoomGives design blif rules facts budget cell (Err NoMemory) = Unit {0}
