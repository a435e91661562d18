-- A phase that is to be looked through, and what is found in it.
use Rattle.std.specs.Prelude.{◌≡◌, ℕ, ◌<◌, ◌≤◌, length, Option, Some, None}
use Rattle.bdd_core.specs.Store.{Diagrams, IsSpan}
use Rattle.cell_compare.specs.Phases.{MayUseUp}
use Rattle.cell_compare.specs.declared.answers.PhaseVerdict.{PhaseVerdict}
use Rattle.cell_compare.specs.declared.answers.PhaseVerdict.TheVariants.{Clear, Fault, Vacuous, Budget}
use Rattle.cell_compare.specs.declared.looked.Last.{Last}
use Rattle.cell_compare.specs.declared.looked.Look.{Look}
use Rattle.cell_room.specs.Works.{ArePhaseVars, IsAcyclicPlan}
use Rattle.drive_levels.specs.PhaseLevels.{ArePhaseLevels}
use Rattle.drive_levels.specs.declared.table.NetLevels.{NetLevels}
use Rattle.phase_open.specs.Given.{AreFew}
use Rattle.phase_terms.specs.Ready.{IsReady, comparison_in}
use Rattle.phase_terms.specs.Stores.{counts_of}
use Rattle.phase_terms.specs.declared.found.PhaseFault.{PhaseFault}
use Rattle.phase_told.specs.Sites.{IsSite}
use Rattle.vrt_model.specs.Comparison.{Comparison}
use Rattle.vrt_model.specs.Equal.{IsPhaseEqual, IsVacuous}
use Rattle.vrt_model.specs.Held.{sources_of}
use Rattle.whole_steps.specs.Tables.{IsWholeTable}

-- a phase of a comparison with its variables, its plan, its words, and the start of a store that had its two constants
pub record IsLook (l : Look) : Type 0 where
  pub budget : 65536 ≤ l.budget
  pub ready : IsReady (comparison_in l.compared)
  pub wholes : IsWholeTable l.compared.circuit.now l.compared.wholes.drivers.now l.compared.wholes.plans.now
  pub there : l.phase < length l.compared.rules.now.phases
  pub vars : ArePhaseVars (comparison_in l.compared) l.phase l.vars.now
  pub within : length l.vars.now.sources ≤ l.counts.variables
  pub plan : IsAcyclicPlan (comparison_in l.compared) l.phase l.plan.now
  pub counts : l.counts ≡ counts_of (comparison_in l.compared) l.counts.variables
  pub few : AreFew l.counts
  pub start : l.start.nodes ≡ 2

-- what is found in a phase: it is equal, and these are its levels; no valuation meets its constraints; its first fault, with the valuation in
-- its words; or the budget is used up, as all its operations may do, and as many nodes are there
abbrev pub IsFound : Comparison → ℕ → ℕ → NetLevels → Diagrams → Option PhaseFault → PhaseVerdict → Type 0
IsFound k budget phase levels d fault Clear = IsPhaseEqual k phase × ArePhaseLevels k phase levels
IsFound k budget phase levels d fault Vacuous = IsVacuous k phase
IsFound k budget phase levels d None (Fault site) = ⊥
IsFound k budget phase levels d (Some fault) (Fault site) = IsSite k phase fault d site
IsFound k budget phase levels d fault (Budget nodes) = (nodes ≡ budget) × (length d.nodes ≡ budget) × MayUseUp k budget phase

-- a fault has a word for each variable
abbrev pub HasWords : Diagrams → ℕ → Option PhaseFault → Type 0
HasWords d variables None = Unit {0}
HasWords d variables (Some fault) = IsSpan d fault.least × (variables ≤ fault.least.len)

-- this phase was looked through last, and this was found
pub record IsLast (k : Comparison) (budget phase : ℕ) (levels : NetLevels) (d : Diagrams) (l : Last) : Type 0 where
  pub is : l.phase ≡ phase
  pub there : phase < length k.rules.phases
  pub variables : l.variables ≡ length (sources_of k phase)
  pub words : HasWords d l.variables l.fault
  pub found : IsFound k budget phase levels d l.fault l.answer
