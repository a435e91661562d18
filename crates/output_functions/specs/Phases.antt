-- The functions of outputs over the phases of a cell, phase by phase, by handles of one store.
use Rattle.std.specs.Prelude.{◌≡◌, ◌↔◌, ℕ, ◌+◌, ◌*◌, ◌<◌, ◌≤◌, Bool, true, List, Some, length, Result, Ok, Err}
use Rattle.bdd_core.specs.Store.{Diagrams}
use Rattle.bdd_core.specs.Words.{IsFilled}
use Rattle.bdd_core.specs.declared.handle.H.{H}
use Rattle.bdd_ops.specs.Ops.{bits_of}
use Rattle.output_functions.specs.declared.functions.Functions.{Functions}
use Rattle.output_functions.specs.declared.phase.Stop.{Stop}
use Rattle.output_functions.specs.declared.phase.Stop.TheVariants.{Spent as IsSpent, NoMemory}
use Rattle.bdd_core.specs.declared.handle.Spent.{Spent}
use Rattle.output_functions.specs.declared.phases.Phases.{Phases}
use Rattle.output_joins.specs.Joins.{AreLive, shown}
use Rattle.phase_check.specs.States.{IsOpened, IsSolvedBare, bare_operations}
use Rattle.phase_laws.specs.Sums.{search_operations}
use Rattle.phase_terms.specs.Found.{MaySpend}
use Rattle.phase_terms.specs.Opened.{opened_operations}
use Rattle.phase_terms.specs.Plans.{IsPhasePlan}
use Rattle.phase_terms.specs.Ready.{IsReady, comparison_in}
use Rattle.phase_terms.specs.Stores.{IsPhaseStore}
use Rattle.phase_terms.specs.declared.plan.PhasePlan.{PhasePlan}
use Rattle.phase_terms.specs.declared.words.PhaseWords.{PhaseWords}
use Rattle.vrt_model.specs.Comparison.{CellPort, Comparison, output_signal, ports_of}
use Rattle.vrt_model.specs.Equal.{IsEqual}
use Rattle.vrt_model.specs.Held.{IsValuation, sources_of}
use Rattle.vrt_model.specs.Lists.{Among, At}
use Rattle.whole_steps.specs.Tables.{IsWholeTable}
use Rattle.written_cells.specs.Outputs.{GivesOne}

-- ---- the functions

-- no two output ports have one signal
abbrev pub HasOwnOutputs : Comparison → Type 0
HasOwnOutputs k =
    (i j : ℕ) (one other : CellPort) (signal : ℕ)
    → At (ports_of k) i one → At (ports_of k) j other → output_signal one.role ≡ Some signal → output_signal other.role ≡ Some signal → i ≡ j

-- each phase has the same variables
abbrev pub HasSameSources : Comparison → Type 0
HasSameSources k = (p q : ℕ) → sources_of k p ≡ sources_of k q

-- a phase before this one gives the port 1
abbrev pub GivesBefore : Comparison → ℕ → CellPort → ℕ → List Bool → Type 0
GivesBefore k upto port signal bits = (one : GivesOne k port signal bits) × (one.phase < upto)

-- a live handle for each signal, and for that of an output port one of its function over the phases before this one
pub record AreJoined (k : Comparison) (upto : ℕ) (handles : List H) (d : Diagrams) : Type 0 where
  pub len : length handles ≡ length k.model.signals
  pub live : AreLive d handles
  pub is :
      (port : CellPort) (signal : ℕ) → Among (ports_of k) port → output_signal port.role ≡ Some signal → (phase : ℕ) (bits : List Bool) → IsValuation k phase bits
      → (shown d handles signal (bits_of bits) ≡ true) ↔ GivesBefore k upto port signal bits

-- ---- the store

-- between two phases: the words of a phase, with live handles where a phase reads what stands there, and so many operations made
pub record IsBetween (k : Comparison) (phase budget made : ℕ) (w : PhaseWords) (d : Diagrams) : Type 0 where
  pub store : IsPhaseStore k phase budget made w d
  pub roots : IsFilled d w.roots
  pub inputs : IsFilled d w.inputs
  pub held : IsFilled d w.held

-- ---- a phase

-- opened, and its bare circuit solved
abbrev pub solved_operations : Comparison → ℕ → PhasePlan → ℕ
solved_operations k phase plan = opened_operations k phase + bare_operations k phase plan

-- the valuations that meet the constraints of an opened phase; or the budget used up, where so many operations may do so
abbrev pub OpenedGives : Comparison → ℕ → ℕ → ℕ → PhaseWords → Diagrams → Result H Spent → Type 0
OpenedGives k phase budget operations w d (Ok care) = IsOpened k phase d.budget operations care w d
OpenedGives k phase budget operations w d (Err spent) = MaySpend k budget phase operations

-- the same of a phase whose bare circuit is solved
abbrev pub SolvedGives : Comparison → ℕ → ℕ → PhasePlan → ℕ → PhaseWords → Diagrams → Result H Stop → Type 0
SolvedGives k phase budget plan operations w d (Ok care) = IsSolvedBare k phase d.budget operations plan care w d
SolvedGives k phase budget plan operations w d (Err IsSpent) = MaySpend k budget phase operations
SolvedGives k phase budget plan operations w d (Err NoMemory) = Unit {0}

-- the outputs joined; or the budget used up
abbrev pub JoinedGives : Comparison → ℕ → ℕ → ℕ → PhaseWords → Diagrams → List H → Result Unit Stop → Type 0
JoinedGives k phase budget operations w d handles (Ok done) = IsBetween k phase d.budget operations w d × AreJoined k (phase + 1) handles d
JoinedGives k phase budget operations w d handles (Err IsSpent) = MaySpend k budget phase operations
JoinedGives k phase budget operations w d handles (Err NoMemory) = Unit {0}

-- ---- phase after phase

-- a plan of each phase
pub record ArePhasePlans (k : Comparison) (plans : List PhasePlan) : Type 0 where
  pub count : length plans ≡ length k.rules.phases
  pub each : (phase : ℕ) (plan : PhasePlan) → At plans phase plan → IsPhasePlan k phase plan

-- what is asked of a cell: it is equal, no two output ports have one signal, and each phase has these variables and a plan
pub record IsJoinable (p : Phases) : Type 0 where
  pub ready : IsReady (comparison_in p.compared)
  pub wholes : IsWholeTable p.compared.circuit.now p.compared.wholes.drivers.now p.compared.wholes.plans.now
  pub equal : IsEqual (comparison_in p.compared)
  pub own : HasOwnOutputs (comparison_in p.compared)
  pub vars : (phase : ℕ) → p.vars.now.sources ≡ sources_of (comparison_in p.compared) phase
  pub plans_are : ArePhasePlans (comparison_in p.compared) p.plans.now

-- no phase takes more operations when it is looked through
abbrev pub HasWork : Comparison → List PhasePlan → ℕ → Type 0
HasWork k plans work = (phase : ℕ) (plan : PhasePlan) → At plans phase plan → search_operations k phase plan ≤ work

-- the operations of a phase, where two are made for each output
abbrev pub joined_work : Comparison → ℕ → ℕ
joined_work k work = work + 2 * length k.circuit.nets

-- the phases before one are joined, in a store with their operations
pub record AreJoinedIn (k : Comparison) (plans : List PhasePlan) (upto budget : ℕ) (w : PhaseWords) (d : Diagrams) (handles : List H) : Type 0 where
  pub made : ℕ
  pub between : IsBetween k 0 budget made w d
  pub within : (work : ℕ) → HasWork k plans work → made ≤ upto * joined_work k work
  pub joined : AreJoined k upto handles d

-- so; or the budget used up, where the operations of so many phases may do so
abbrev pub PhasesGive : Comparison → List PhasePlan → ℕ → ℕ → PhaseWords → Diagrams → List H → Result Unit Stop → Type 0
PhasesGive k plans upto budget w d handles (Ok done) = AreJoinedIn k plans upto d.budget w d handles
PhasesGive k plans upto budget w d handles (Err IsSpent) = (work : ℕ) → HasWork k plans work → MaySpend k budget 0 (upto * joined_work k work)
PhasesGive k plans upto budget w d handles (Err NoMemory) = Unit {0}

-- ---- all phases

-- the functions over all phases, in a store of so many variables; or the budget used up
abbrev pub FunctionsGive : Comparison → List PhasePlan → ℕ → ℕ → Result Functions Stop → Type 0
FunctionsGive k plans budget variables (Ok f) = AreJoined k (length k.rules.phases) f.handles.items f.store × (f.store.vars ≡ variables)
FunctionsGive k plans budget variables (Err IsSpent) = (work : ℕ) → HasWork k plans work → MaySpend k budget 0 (length k.rules.phases * joined_work k work)
FunctionsGive k plans budget variables (Err NoMemory) = Unit {0}
