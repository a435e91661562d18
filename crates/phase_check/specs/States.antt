-- What is known of a phase between the stages of its search, and what the search leaves of its store.
use Rattle.std.specs.Prelude.{◌≡◌, ℕ, ◌+◌, ◌-◌, ◌*◌, ◌<◌, ◌≤◌, ◌++◌, Bool, true, List, length, Option, Some, None, Result, Ok, Err}
use Rattle.node_pool.specs.declared.region.Span.{Span}
use Rattle.bdd_core.specs.Store.{Diagrams}
use Rattle.bdd_core.specs.Words.{IsFilled, shows, word_at}
use Rattle.bdd_core.specs.declared.handle.H.{H}
use Rattle.bdd_core.specs.declared.handle.Spent.{Spent}
use Rattle.bdd_ops.specs.Ops.{bits_of}
use Rattle.blif_eval.specs.Evaluated.{assignment_at}
use Rattle.blif_eval.specs.OneAssignment.{AreSame}
use Rattle.circuit_faults.specs.KeptFaults.{kept_spots}
use Rattle.circuit_faults.specs.Operations.{kept_operations, steps_operations}
use Rattle.circuit_faults.specs.Results.{IsClearCircuit}
use Rattle.circuit_faults.specs.Steps.{in_comparison}
use Rattle.circuit_faults.specs.declared.kept_net.KeptFault.{KeptFault}
use Rattle.fault_places.specs.Searches.{Case, IsClearOf, Spot, StandsIn}
use Rattle.phase_check.specs.declared.search.Search.{Search}
use Rattle.phase_terms.specs.Found.{IsPhaseFault, MaySpend, met}
use Rattle.phase_terms.specs.Opened.{IsOpen}
use Rattle.phase_terms.specs.Plans.{IsPhasePlan, step_spots}
use Rattle.phase_terms.specs.Ready.{IsReady, comparison_in}
use Rattle.phase_terms.specs.Stores.{IsPhaseStore}
use Rattle.phase_terms.specs.declared.found.OpenPhase.{OpenPhase}
use Rattle.phase_terms.specs.declared.found.PhaseFault.{PhaseFault}
use Rattle.phase_terms.specs.declared.found.PhaseFound.{PhaseFound}
use Rattle.phase_terms.specs.declared.found.PhaseFound.TheVariants.{Clear, Vacuous, Fault, Spent as IsSpent}
use Rattle.phase_terms.specs.declared.plan.PhasePlan.{PhasePlan}
use Rattle.phase_terms.specs.declared.words.PhaseWords.{PhaseWords}
use Rattle.phase_wishes.specs.declared.wishes.WishBits.{WishBits}
use Rattle.vrt_model.specs.Assignment.{Assignment}
use Rattle.vrt_model.specs.Budget.{model_size}
use Rattle.vrt_model.specs.Comparison.{Comparison, is_observed, phase_at}
use Rattle.vrt_model.specs.Constraints.{Meets}
use Rattle.vrt_model.specs.Equal.{IsPhaseEqual}
use Rattle.vrt_model.specs.Faults.{Assigns, Solves}
use Rattle.vrt_model.specs.Held.{setting_of}
use Rattle.vrt_model.specs.Reading.{Partial}
use Rattle.vrt_model.specs.declared.verdict.FaultKind.TheVariants.{FightKept, Unsettled}

-- ---- what is known

-- no fault stands at these places at a valuation that meets the constraints
abbrev pub IsClearAt : Comparison → ℕ → List Spot → Type 0
IsClearAt k phase spots = IsClearOf (StandsIn k phase) (λ (v : Case k phase). met k phase v.bits) spots

-- so many operations were made, what was opened stands, some valuation meets the constraints, and no fault stands at
-- these places
pub record IsSearched (k : Comparison) (phase budget operations : ℕ) (spots : List Spot) (care : H) (w : PhaseWords) (d : Diagrams) : Type 0 where
  pub store : IsPhaseStore k phase budget operations w d
  pub opened : IsOpen k phase care w d
  pub met : (bits : List Bool) × Meets k phase bits
  pub clear : IsClearAt k phase spots

-- the bare circuit is clear, and the handles of the observed nets have their bits
pub record IsSolved (k : Comparison) (phase : ℕ) (care : H) (w : PhaseWords) (d : Diagrams) : Type 0 where
  pub live : IsFilled d w.gates
  pub circuit : IsClearCircuit k.circuit (phase_at k.rules phase) (is_observed k phase) care w.roots w.gates d d

-- at a valuation that meets the constraints each solution has the bits of the handles of observed nets
pub record HasNetBits (k : Comparison) (phase : ℕ) (w : PhaseWords) (d : Diagrams) : Type 0 where
  pub live : IsFilled d w.gates
  pub bits :
      (bits : List Bool) (a : Partial) → met k phase bits ≡ true → Solves k phase (setting_of k phase bits) a
      → (n : ℕ) → is_observed k phase n ≡ true → a n ≡ Some (shows d w.gates n (bits_of bits))

-- at each valuation each assignment of the model has the bits of the handles
pub record HasModelBits (k : Comparison) (phase : ℕ) (w : PhaseWords) (d : Diagrams) : Type 0 where
  pub live : IsFilled d w.values
  pub bits :
      (bits : List Bool) (g : Assignment) → Assigns k phase (setting_of k phase bits) g
      → AreSame k.model g (assignment_at d k.model w.values (bits_of bits))

-- the first places of a phase: those of the bare circuit, and those of the kept one
abbrev pub circuit_spots : Comparison → PhasePlan → List Spot
circuit_spots k plan = step_spots plan ++ kept_spots k.circuit

-- ---- the records between the stages, after so many operations

-- a phase of a comparison that may be searched, with its plan
pub record IsSearchable (k : Comparison) (phase : ℕ) (plan : PhasePlan) : Type 0 where
  pub ready : IsReady k
  pub there : phase < length k.rules.phases
  pub planned : IsPhasePlan k phase plan

-- opened: the bits of roots, of the model's inputs and of its elements, and the care set
pub record IsOpened (k : Comparison) (phase budget operations : ℕ) (care : H) (w : PhaseWords) (d : Diagrams) : Type 0 where
  pub store : IsPhaseStore k phase budget operations w d
  pub opened : IsOpen k phase care w d

-- solved: no fault of the bare circuit stands, and its nets have their bits
pub record IsSolvedBare (k : Comparison) (phase budget operations : ℕ) (plan : PhasePlan) (care : H) (w : PhaseWords) (d : Diagrams) : Type 0 where
  pub searched : IsSearched k phase budget operations (step_spots plan) care w d
  pub solved : IsSolved k phase care w d

-- kept: nor one of the kept circuit
pub record IsSolvedKept (k : Comparison) (phase budget operations : ℕ) (plan : PhasePlan) (care : H) (w : PhaseWords) (d : Diagrams) : Type 0 where
  pub searched : IsSearched k phase budget operations (circuit_spots k plan) care w d
  pub nets : HasNetBits k phase w d

-- evaluated: the model's signals and elements have their bits
pub record IsEvaluated (k : Comparison) (phase budget operations : ℕ) (plan : PhasePlan) (care : H) (w : PhaseWords) (d : Diagrams) : Type 0 where
  pub kept : IsSolvedKept k phase budget operations plan care w d
  pub model : HasModelBits k phase w d

-- wished: the nets have what they ought to, so the phase is equal
pub record IsWished (k : Comparison) (phase budget operations : ℕ) (plan : PhasePlan) (care : H) (w : PhaseWords) (d : Diagrams) : Type 0 where
  pub kept : IsSolvedKept k phase budget operations plan care w d
  pub equal : IsPhaseEqual k phase

-- the opened phase; or the budget used up, where so many operations may do so, and as many nodes are there
abbrev pub OpenGives : Comparison → ℕ → ℕ → ℕ → Diagrams → Result OpenPhase Spent → Type 0
OpenGives k phase budget operations d (Ok open_phase) = IsOpened k phase d.budget operations open_phase.care open_phase.words d
OpenGives k phase budget operations d (Err spent) = MaySpend k budget phase operations × (length d.nodes ≡ budget)

-- a stage finds nothing, and then this holds; or the first fault of the phase; or the budget used up, where so many operations may do so, and
-- as many nodes are there
abbrev pub StageGives : Comparison → ℕ → ℕ → ℕ → Type 0 → Diagrams → Result (Option PhaseFault) Spent → Type 0
StageGives k phase budget operations Next d (Ok None) = Next
StageGives k phase budget operations Next d (Ok (Some fault)) = IsPhaseFault k phase fault d
StageGives k phase budget operations Next d (Err spent) = MaySpend k budget phase operations × (length d.nodes ≡ budget)

-- a stage that finds no fault
abbrev pub StepGives : Comparison → ℕ → ℕ → ℕ → Type 0 → Diagrams → Result Unit Spent → Type 0
StepGives k phase budget operations Next d (Ok done) = Next
StepGives k phase budget operations Next d (Err spent) = MaySpend k budget phase operations × (length d.nodes ≡ budget)

-- ---- the store

-- the store is as it was but for its nodes and its words, and no word of those from before went
pub record KeepsRoom (old new : Diagrams) : Type 0 where
  pub budget : new.budget ≡ old.budget
  pub vars : new.vars ≡ old.vars
  pub own : new.own ≡ old.own
  pub room : new.word_room ≡ old.word_room
  pub nodes : 2 ≤ length new.nodes
  pub words : length old.words ≤ length new.words

-- ---- the values of a fault of the kept circuit

-- where a bit is lost, the one that the kept circuit shows and that of the net; a fight has none
pub record AreKeptValues (fault : KeptFault) (gates : Span) (d : Diagrams) (values : Option (H × H)) : Type 0 where
  pub fight : fault.kind ≡ FightKept → values ≡ None
  pub lost : fault.kind ≡ Unsettled → values ≡ Some (fault.value, record { 0 = word_at d gates fault.net.0 })

-- ---- the handles of what nets ought to have

-- those of nets, those of signals, and behind these those of the new bits of elements
abbrev pub handles_of : PhaseWords → WishBits
handles_of w = record {
  gates = w.gates;
  values = record { start = w.values.start; len = w.inputs.len - 1 };
  next = record { start = w.values.start + (w.inputs.len - 1); len = w.held.len };
}

-- ---- the stages of a search

-- of the bare circuit, of the kept one, of the model, and of the wishes
abbrev pub bare_operations : Comparison → ℕ → PhasePlan → ℕ
bare_operations k phase plan = steps_operations (in_comparison k phase plan.parts plan.steps (is_observed k phase))

abbrev pub plan_kept_operations : Comparison → PhasePlan → ℕ
plan_kept_operations k plan = kept_operations k.circuit plan.kept.list

abbrev pub model_operations : Comparison → ℕ
model_operations k = 2 * model_size k.model

abbrev pub wish_operations : PhasePlan → ℕ
wish_operations plan = 4 * length plan.wishes

-- the comparison that is searched
abbrev pub of_search : Search → Comparison
of_search s = comparison_in s.compared

-- after an opened phase, the bare circuit solved
abbrev pub SolvesBare : Search → ℕ → Diagrams → Diagrams → Result (Option PhaseFault) Spent → Type 0
SolvesBare s made old new result =
    IsOpened (of_search s) s.phase old.budget made s.care s.words old
    → StageGives (of_search s) s.phase old.budget (made + bare_operations (of_search s) s.phase s.plan.now)
    (IsSolvedBare (of_search s) s.phase new.budget (made + bare_operations (of_search s) s.phase s.plan.now) s.plan.now s.care s.words new) new result

-- then the kept one
abbrev pub SolvesKept : Search → ℕ → Diagrams → Diagrams → Result (Option PhaseFault) Spent → Type 0
SolvesKept s made old new result =
    IsSolvedBare (of_search s) s.phase old.budget made s.plan.now s.care s.words old
    → StageGives (of_search s) s.phase old.budget (made + plan_kept_operations (of_search s) s.plan.now)
    (IsSolvedKept (of_search s) s.phase new.budget (made + plan_kept_operations (of_search s) s.plan.now) s.plan.now s.care s.words new) new result

-- then the model evaluated
abbrev pub Evaluates : Search → ℕ → Diagrams → Diagrams → Result Unit Spent → Type 0
Evaluates s made old new result =
    IsSolvedKept (of_search s) s.phase old.budget made s.plan.now s.care s.words old
    → StepGives (of_search s) s.phase old.budget (made + model_operations (of_search s))
    (IsEvaluated (of_search s) s.phase new.budget (made + model_operations (of_search s)) s.plan.now s.care s.words new) new result

-- then what nets ought to have
abbrev pub ChecksWishes : Search → ℕ → Diagrams → Diagrams → Result (Option PhaseFault) Spent → Type 0
ChecksWishes s made old new result =
    IsEvaluated (of_search s) s.phase old.budget made s.plan.now s.care s.words old
    → StageGives (of_search s) s.phase old.budget (made + wish_operations s.plan.now)
    (IsWished (of_search s) s.phase new.budget (made + wish_operations s.plan.now) s.plan.now s.care s.words new) new result

-- all of these
abbrev pub stages_operations : Comparison → ℕ → PhasePlan → ℕ → ℕ
stages_operations k phase plan made = made + bare_operations k phase plan + plan_kept_operations k plan + model_operations k + wish_operations plan

abbrev pub ChecksStages : Search → ℕ → Diagrams → Diagrams → Result (Option PhaseFault) Spent → Type 0
ChecksStages s made old new result =
    IsOpened (of_search s) s.phase old.budget made s.care s.words old
    → StageGives (of_search s) s.phase old.budget (stages_operations (of_search s) s.phase s.plan.now made)
    (IsWished (of_search s) s.phase new.budget (stages_operations (of_search s) s.phase s.plan.now made) s.plan.now s.care s.words new) new result

-- ---- the whole search

-- where the phase is clear, the record of its last stage holds, so that the levels of its nets can be asked for
abbrev pub ClearGives : Comparison → ℕ → ℕ → PhasePlan → Diagrams → PhaseFound → Type 0
ClearGives k phase operations plan d (Clear open_phase) = IsWished k phase d.budget operations plan open_phase.care open_phase.words d
ClearGives k phase operations plan d Vacuous = Unit {0}
ClearGives k phase operations plan d (Fault fault) = Unit {0}
ClearGives k phase operations plan d IsSpent = Unit {0}
