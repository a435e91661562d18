-- An order of the signals and elements of a model that follows its arcs.
use Rattle.std.specs.Prelude.{◌≡◌, ℕ, ◌++◌, ◌<◌, ◌⊎◌, Bool, not, List, length, Option, Some, None, Result, Ok, Err, slice_get, unwrap_or}
use Rattle.blif_eval.specs.Drivers.{AreDrivers, node_count}
use Rattle.blif_eval.specs.OneAssignment.{HasOneAssignment}
use Rattle.blif_eval.specs.declared.driver_table.Driver.{Driver}
use Rattle.blif_eval.specs.declared.driver_table.Driver.TheVariants.{Given, Covered, Stored, Element}
use Rattle.blif_eval.specs.declared.driver_table.Storage.{Storage}
use Rattle.blif_eval.specs.declared.plan.ModelPlan.{ModelPlan}
use Rattle.blif_eval.specs.declared.plan.PlanFault.{PlanFault}
use Rattle.blif_eval.specs.declared.plan.PlanFault.TheVariants.{ModelCycle, NoMemory}
use Rattle.graphs.specs.Orders.{Follows, ListsOnce}
use Rattle.graphs.specs.declared.order.Order.{Order}
use Rattle.graphs.specs.declared.order.Order.TheVariants.{Steps, Cycle}
use Rattle.vrt_model.specs.Known.{IsCycle, IsFirstCycle}
use Rattle.vrt_model.specs.Lists.{Among, At}
use Rattle.vrt_model.specs.ModelArcs.{HasModelArc, IsKnownControl}
use Rattle.vrt_model.specs.declared.flat_model.Cover.{Cover}
use Rattle.vrt_model.specs.declared.flat_model.FlatLatch.{FlatLatch}
use Rattle.vrt_model.specs.declared.flat_model.FlatModel.{FlatModel}

-- the bits that are known: one entry for each signal, and one more for the default clock
abbrev pub entry_of : List (Option Bool) → ℕ → Option Bool
entry_of known s = unwrap_or (slice_get known s) None

abbrev pub ArcOf : FlatModel → List (Option Bool) → ℕ → ℕ → Type 0
ArcOf flat known = HasModelArc flat (entry_of known) (entry_of known (length flat.signals))

-- in a model with latches each bit that is known of a signal is the one of an input or a clock
abbrev pub AreOutside : FlatModel → List (Option Bool) → Type 0
AreOutside flat known =
    (latch : FlatLatch) → Among flat.latches latch
    → (s : ℕ) (v : Bool) → s < length flat.signals → entry_of known s ≡ Some v → Among (flat.inputs ++ flat.clocks) s

-- each known bit is the one of an input or a clock, or, behind the signals, that of the default clock
pub record HasKnownBits (flat : FlatModel) (known : List (Option Bool)) (default_clock : Bool) (inputs : ℕ → Bool) : Type 0 where
  pub signals : (s : ℕ) (v : Bool) → s < length flat.signals → entry_of known s ≡ Some v → Among (flat.inputs ++ flat.clocks) s × (inputs s ≡ v)
  pub clock : (v : Bool) → entry_of known (length flat.signals) ≡ Some v → default_clock ≡ v

-- exactly one assignment, at any bits that are as is known
abbrev pub IsAssignedOnce : FlatModel → List (Option Bool) → Type 0
IsAssignedOnce flat known =
    (default_clock : Bool) (held inputs : ℕ → Bool) → HasKnownBits flat known default_clock inputs → HasOneAssignment flat default_clock held inputs

-- a number stands before a place
abbrev pub IsBefore : List ℕ → ℕ → ℕ → Type 0
IsBefore steps k n = (j : ℕ) × (j < k) × At steps j n

-- the known control keeps an element shut
abbrev pub IsShut : FlatModel → List (Option Bool) → Storage → Type 0
IsShut flat known storage = IsKnownControl flat (entry_of known) (entry_of known (length flat.signals)) storage.control (not storage.open_at)

-- what gives a number its bit stands before; but an element that is known to be shut takes nothing in
abbrev pub IsBehind : FlatModel → List (Option Bool) → List ℕ → ℕ → Driver → Type 0
IsBehind flat known steps k Given = Unit {0}
IsBehind flat known steps k (Covered place) = (cover : Cover) (from : ℕ) → At flat.covers place cover → Among cover.inputs from → IsBefore steps k from
IsBehind flat known steps k (Stored number) = IsBefore steps k number
IsBehind flat known steps k (Element storage) =
    ((from : ℕ) → storage.control ≡ Some from → IsBefore steps k from) × (IsBefore steps k storage.source ⊎ IsShut flat known storage)

abbrev pub AreBehind : FlatModel → List (Option Bool) → List Driver → List ℕ → Type 0
AreBehind flat known drivers steps = (k n : ℕ) (driver : Driver) → At steps k n → At drivers n driver → IsBehind flat known steps k driver

-- a plan of a model: an order that follows the arcs, which have no cycle; then there is one assignment; what gives each
-- number its bit, and that it stands before
pub record IsPlan (flat : FlatModel) (known : List (Option Bool)) (plan : ModelPlan) : Type 0 where
  pub lists : ListsOnce (node_count flat) plan.steps
  pub follows : Follows (ArcOf flat known) plan.steps
  pub acyclic : (nodes : List ℕ) → ¬ IsCycle (ArcOf flat known) nodes
  pub assigned : IsAssignedOnce flat known
  pub outside : AreOutside flat known
  pub drivers : AreDrivers flat plan.drivers
  pub behind : AreBehind flat known plan.drivers plan.steps

abbrev pub PlanGives : FlatModel → List (Option Bool) → Result ModelPlan PlanFault → Type 0
PlanGives flat known (Ok plan) = IsPlan flat known plan
PlanGives flat known (Err (ModelCycle signals)) = IsFirstCycle (ArcOf flat known) signals
PlanGives flat known (Err NoMemory) = Unit {0}

-- the answer by the order of a graph and by what gives each number its bit
abbrev pub plan_by : List Driver → Order → Result ModelPlan PlanFault
plan_by drivers (Steps steps) = Ok (record { steps = steps; drivers = drivers })
plan_by drivers (Cycle nodes) = Err (ModelCycle nodes)
