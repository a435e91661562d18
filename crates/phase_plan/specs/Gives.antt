-- What the plan of a phase gives, and the steps in which it is made.
use Rattle.std.specs.Prelude.{◌≡◌, ℕ, ◌*◌, ◌<◌, ◌≤◌, ◌++◌, All, Bool, true, List, length, map, Option, Result, Ok, Err}
use Rattle.blif_eval.specs.Plans.{IsPlan, entry_of}
use Rattle.blif_eval.specs.declared.plan.ModelPlan.{ModelPlan}
use Rattle.channel_parts.specs.PartLists.{IsPartList}
use Rattle.channel_parts.specs.declared.part.Parts.{Parts}
use Rattle.phase_plan.specs.declared.fault.PlanFault.{PlanFault}
use Rattle.phase_plan.specs.declared.fault.PlanFault.TheVariants.{Cycle, ModelCycle, NoMemory}
use Rattle.phase_terms.specs.Plans.{AreCarried, IsPhasePlan, IsWishThere}
use Rattle.phase_terms.specs.declared.plan.PhasePlan.{PhasePlan}
use Rattle.phase_wishes.specs.Held.{IsHoldWish, held_kinds}
use Rattle.phase_wishes.specs.Wishes.{AreWishes, AreWishesOf}
use Rattle.phase_wishes.specs.declared.wishes.Wish.{Wish}
use Rattle.vrt_model.specs.Comparison.{Comparison, phase_at}
use Rattle.vrt_model.specs.Known.{IsFirstCycle}
use Rattle.vrt_model.specs.ModelArcs.{carried_bits}
use Rattle.vrt_model.specs.Unsupported.{CircuitArc, IsAcyclic, ModelArc}
use Rattle.vrt_model.specs.declared.ids.Net.{Net}
use Rattle.vrt_model.specs.declared.pairing.ClockedSignal.{ClockedSignal}
use Rattle.vrt_model.specs.declared.rules.Phase.{Phase}

-- ---- what the call says

-- the first cycle of the circuit, or, where it has none, that of the model
abbrev pub Stops : Comparison → ℕ → PlanFault → Type 0
Stops k phase (Cycle nets) = IsFirstCycle (CircuitArc k phase) (map (λ (n : Net). n.0) nets)
Stops k phase (ModelCycle signals) = IsAcyclic (CircuitArc k phase) × IsFirstCycle (ModelArc k phase) signals
Stops k phase NoMemory = Unit {0}

-- a plan, or a cycle
abbrev pub PlanGives : Comparison → ℕ → Result PhasePlan PlanFault → Type 0
PlanGives k phase (Ok plan) = IsPhasePlan k phase plan
PlanGives k phase (Err stop) = Stops k phase stop

-- ---- the circuit

abbrev pub BareGives : Comparison → ℕ → Result Parts PlanFault → Type 0
BareGives k phase (Ok parts) = IsPartList k.circuit (phase_at k.rules phase) true parts
BareGives k phase (Err stop) = Stops k phase stop

-- ---- the model

-- for each of the first signals the bit of the clock that it carries
pub record HasCarried (phase : Phase) (clocked : List ClockedSignal) (count : ℕ) (known : List (Option Bool)) : Type 0 where
  pub len : length known ≡ count
  pub each : (s : ℕ) → s < count → entry_of known s ≡ carried_bits phase clocked s

-- a plan of the model by the bits of the signals that carry clocks, so that it has no cycle
pub record HasModelPlan (k : Comparison) (phase : ℕ) (model : ModelPlan) : Type 0 where
  pub known : List (Option Bool)
  pub carried : AreCarried k phase known
  pub plan : IsPlan k.model known model
  pub acyclic : IsAcyclic (ModelArc k phase)

abbrev pub ModelGives : Comparison → ℕ → Result ModelPlan PlanFault → Type 0
ModelGives k phase (Ok model) = HasModelPlan k phase model
ModelGives k phase (Err stop) = Stops k phase stop

-- ---- the wishes

-- behind what there was stands all that holds ought to be given
pub record AddsHolds (k : Comparison) (phase : ℕ) (old new : List Wish) : Type 0 where
  pub more : List Wish
  pub is : new ≡ old ++ more
  pub wishes : AreWishesOf held_kinds k phase more
  pub known : All (IsHoldWish k.circuit k.groups) more

-- all that nets ought to be given; what it speaks of is there, and there are few
pub record HasWishes (k : Comparison) (phase : ℕ) (wishes : List Wish) : Type 0 where
  pub are : AreWishes k phase wishes
  pub there : All (IsWishThere k phase) wishes
  pub few : length wishes ≤ 4 * length k.circuit.nets
