-- What is made before a phase is looked through.
use Rattle.std.specs.Prelude.{◌≡◌, ℕ, ◌+◌, ◌*◌, ◌<◌, ◌≤◌, ◌++◌, All, Bool, true, false, List, length, flat_map, map, sum_by, Option, Some, None}
use Rattle.blif_eval.specs.Plans.{IsPlan, entry_of}
use Rattle.channel_parts.specs.PartLists.{AreParts, IsPartList}
use Rattle.channel_parts.specs.declared.part.Parts.{Parts}
use Rattle.circuit_faults.specs.KeptFaults.{kept_spots}
use Rattle.circuit_faults.specs.Operations.{circuit_operations, constraint_operations, steps_operations}
use Rattle.circuit_faults.specs.Steps.{IsStepThere, in_comparison, step_of}
use Rattle.circuit_faults.specs.declared.steps.CircuitStep.{CircuitStep}
use Rattle.fault_places.specs.PhaseSpots.{AreSteps, spots_of}
use Rattle.fault_places.specs.Searches.{Spot}
use Rattle.phase_terms.specs.declared.plan.PhasePlan.{PhasePlan}
use Rattle.phase_wishes.specs.Missed.{nets_of}
use Rattle.phase_wishes.specs.Wishes.{AreWishes, spot_of}
use Rattle.phase_wishes.specs.declared.wishes.Wanted.{Wanted}
use Rattle.phase_wishes.specs.declared.wishes.Wanted.TheVariants.{Signal, Element, Other, Constant}
use Rattle.phase_wishes.specs.declared.wishes.Wish.{Wish}
use Rattle.vrt_model.specs.Comparison.{Comparison, default_clock_bit, is_observed, phase_at}
use Rattle.vrt_model.specs.Elements.{element_names}
use Rattle.vrt_model.specs.Known.{IsRanking}
use Rattle.vrt_model.specs.Lists.{Among, At, mark_at}
use Rattle.vrt_model.specs.ModelArcs.{carried_bits}

-- ---- the steps

-- the parts, and between them the instances with constraints, in their order, each once; how many operations they take
pub record AreCircuitSteps (k : Comparison) (phase : ℕ) (parts : Parts) (steps : List CircuitStep) : Type 0 where
  pub order :
      (rank : ℕ → ℕ) → AreParts k.circuit (phase_at k.rules phase) true rank parts → IsRanking k.circuit (phase_at k.rules phase) rank
      → AreSteps k phase rank (map (step_of parts.list) steps)
  pub there : (j : ℕ) (step : CircuitStep) → At steps j step → IsStepThere parts.list k.circuit step
  pub work :
      (observed : ℕ → Bool)
      → steps_operations (in_comparison k phase parts steps observed)
      ≡ circuit_operations k.circuit parts.list + sum_by (constraint_operations (in_comparison k phase parts steps observed)) k.circuit.instances

-- ---- the model

-- what is known of the model's signals: the bits of those that carry clocks, and behind the signals that of the default clock
pub record AreCarried (k : Comparison) (phase : ℕ) (known : List (Option Bool)) : Type 0 where
  pub len : length known ≡ length k.model.signals + 1
  pub signals : (s : ℕ) → s < length k.model.signals → entry_of known s ≡ carried_bits (phase_at k.rules phase) k.pairing.clocked s
  pub clock : entry_of known (length k.model.signals) ≡ default_clock_bit k.rules (phase_at k.rules phase)

-- ---- the wishes

-- what is wanted is a bit of a signal, an element or a net that is there
abbrev pub IsWantedThere : Comparison → Wanted → Type 0
IsWantedThere k (Signal signal) = signal < length k.model.signals
IsWantedThere k (Element element inverted) = element < length (element_names k.model)
IsWantedThere k (Other net inverted) = net.0 < length k.circuit.nets
IsWantedThere k (Constant v) = Unit {0}

-- a don't-care bit is that of a signal that is there
abbrev pub IsFreeThere : Comparison → Option ℕ → Type 0
IsFreeThere k None = Unit {0}
IsFreeThere k (Some bit) = bit < length k.model.signals

-- the net of a wish, what is wanted and its don't-care bit are there, and the nets of which it speaks are observed
pub record IsWishThere (k : Comparison) (phase : ℕ) (wish : Wish) : Type 0 where
  pub net : wish.net.0 < length k.circuit.nets
  pub wanted : IsWantedThere k wish.wanted
  pub free : IsFreeThere k wish.free
  pub seen : (n : ℕ) → Among (nets_of wish) n → is_observed k phase n ≡ true

-- ---- the plan

pub record IsPhasePlan (k : Comparison) (phase : ℕ) (plan : PhasePlan) : Type 0 where
  pub parts : IsPartList k.circuit (phase_at k.rules phase) true plan.parts
  pub kept : IsPartList k.circuit (phase_at k.rules phase) false plan.kept
  pub steps : AreCircuitSteps k phase plan.parts plan.steps
  pub known : List (Option Bool)
  pub carried : AreCarried k phase known
  pub model : IsPlan k.model known plan.model
  pub marks : length plan.observed.items ≡ length k.circuit.nets
  pub observed : (n : ℕ) → mark_at plan.observed.items n ≡ is_observed k phase n
  pub wishes : AreWishes k phase plan.wishes
  pub there : All (IsWishThere k phase) plan.wishes
  pub few : length plan.wishes ≤ 4 * length k.circuit.nets

-- all places at which a fault of the phase may stand, in their order: those of the steps, those of the kept circuit, and those of
-- the wishes
abbrev pub step_spots : PhasePlan → List Spot
step_spots plan = flat_map spots_of (map (step_of plan.parts.list) plan.steps)

abbrev pub planned_spots : Comparison → PhasePlan → List Spot
planned_spots k plan = step_spots plan ++ (kept_spots k.circuit ++ map spot_of plan.wishes)
