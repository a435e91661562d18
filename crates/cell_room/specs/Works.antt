-- What is made of the phases of a comparison before they are looked through: their variables and plans, and the room of their store.
use Rattle.std.specs.Prelude.{◌≡◌, ℕ, ◌+◌, ◌<◌, ◌≤◌, ◌⊎◌, List, length, map, Some, None, Result, Ok, Err}
use Rattle.bdd_core.specs.Store.{Diagrams}
use Rattle.cell_room.specs.Steps.{Stops}
use Rattle.cell_room.specs.declared.hindrance.Hindrance.{Hindrance}
use Rattle.phase_terms.specs.Plans.{IsPhasePlan}
use Rattle.phase_terms.specs.Stores.{counts_of, word_count}
use Rattle.phase_terms.specs.declared.plan.PhasePlan.{PhasePlan}
use Rattle.vrt_model.specs.Comparison.{Comparison}
use Rattle.vrt_model.specs.Held.{sources_of, variable_names}
use Rattle.vrt_model.specs.Known.{IsFirstCycle}
use Rattle.vrt_model.specs.Lists.{At}
use Rattle.vrt_model.specs.Unsupported.{AcyclicBefore, CircuitArc, IsAcyclic, IsCycleWhy, ModelArc, too_many_variables}
use Rattle.vrt_model.specs.declared.groups.Vars.{Vars}
use Rattle.vrt_model.specs.declared.ids.Net.{Net}
use Rattle.vrt_model.specs.declared.verdict.Why.{Why}
use Rattle.vrt_model.specs.declared.verdict.Why.TheVariants.{Cycle, ModelCycle, TooManyVars}

-- ---- variables

-- the variables of a phase, which are few
pub record ArePhaseVars (k : Comparison) (phase : ℕ) (vars : Vars) : Type 0 where
  pub few : length vars.sources ≤ 1000
  pub sources : vars.sources ≡ sources_of k phase
  pub names : vars.names ≡ variable_names k phase

-- or their count
abbrev pub IsMany : Comparison → ℕ → Why → Type 0
IsMany k phase why = (1000 < length (sources_of k phase)) × (why ≡ TooManyVars (length (sources_of k phase)))

abbrev pub VarsTell : Comparison → ℕ → Result Vars Hindrance → Type 0
VarsTell k phase (Ok vars) = ArePhaseVars k phase vars
VarsTell k phase (Err stop) = Stops (IsMany k phase) stop

-- those of each phase before one
pub record AreVars (k : Comparison) (upto : ℕ) (vars : List Vars) : Type 0 where
  pub count : length vars ≡ upto
  pub each : (p : ℕ) (v : Vars) → At vars p v → ArePhaseVars k p v

-- or the count of the first phase that has too many
abbrev pub IsManyWhy : Comparison → Why → Type 0
IsManyWhy k why = (count : ℕ) × (too_many_variables k ≡ Some count) × (why ≡ TooManyVars count)

abbrev pub AllVarsTell : Comparison → List Vars → Result Unit Hindrance → Type 0
AllVarsTell k vars (Ok done) = AreVars k (length k.rules.phases) vars
AllVarsTell k vars (Err stop) = Stops (IsManyWhy k) stop

-- ---- plans

-- a plan of a phase that has no cycle
pub record IsAcyclicPlan (k : Comparison) (phase : ℕ) (plan : PhasePlan) : Type 0 where
  pub is : IsPhasePlan k phase plan
  pub circuit : IsAcyclic (CircuitArc k phase)
  pub model : IsAcyclic (ModelArc k phase)

-- or the first cycle, with its cause
abbrev pub IsPhaseCycle : Comparison → ℕ → Why → Type 0
IsPhaseCycle k phase why =
    ((nets : List Net) × (why ≡ Cycle phase nets) × IsFirstCycle (CircuitArc k phase) (map (λ (n : Net). n.0) nets))
    ⊎ ((signals : List ℕ) × (why ≡ ModelCycle phase signals) × IsAcyclic (CircuitArc k phase) × IsFirstCycle (ModelArc k phase) signals)

abbrev pub PlanTells : Comparison → ℕ → Result PhasePlan Hindrance → Type 0
PlanTells k phase (Ok plan) = IsAcyclicPlan k phase plan
PlanTells k phase (Err stop) = Stops (IsPhaseCycle k phase) stop

-- plans of each phase before one
pub record ArePlans (k : Comparison) (upto : ℕ) (plans : List PhasePlan) : Type 0 where
  pub count : length plans ≡ upto
  pub each : (p : ℕ) (plan : PhasePlan) → At plans p plan → IsAcyclicPlan k p plan

abbrev pub PlansTell : Comparison → List PhasePlan → Result Unit Hindrance → Type 0
PlansTell k plans (Ok done) = ArePlans k (length k.rules.phases) plans
PlansTell k plans (Err stop) = Stops (IsCycleWhy k) stop

-- ---- both

-- too many variables, or else a cycle
abbrev pub IsToldWhy : Comparison → Why → Type 0
IsToldWhy k why = IsManyWhy k why ⊎ ((too_many_variables k ≡ None) × IsCycleWhy k why)

-- few variables in each phase, and no cycle
pub record IsPlanned (k : Comparison) : Type 0 where
  pub few : too_many_variables k ≡ None
  pub acyclic : AcyclicBefore k (length k.rules.phases)

abbrev pub WorksTell : Comparison → List Vars → List PhasePlan → Result Unit Hindrance → Type 0
WorksTell k vars plans (Ok done) = AreVars k (length k.rules.phases) vars × ArePlans k (length k.rules.phases) plans × IsPlanned k
WorksTell k vars plans (Err stop) = Stops (IsToldWhy k) stop

-- ---- the phases in one store

-- the store has this budget, words from a mark on for a phase with so many variables, and its constants
pub record HasRoom (k : Comparison) (budget variables mark : ℕ) (d : Diagrams) : Type 0 where
  pub budget_is : d.budget ≡ budget
  pub vars_are : d.vars ≡ variables
  pub nodes : 2 ≤ length d.nodes
  pub words : mark ≤ length d.words
  pub own : d.own ≤ mark
  pub room : mark + word_count (counts_of k variables) ≤ d.word_room

-- each phase has so many variables at most
abbrev pub AreWithin : List Vars → ℕ → Type 0
AreWithin vars variables = (p : ℕ) (v : Vars) → At vars p v → length v.sources ≤ variables
